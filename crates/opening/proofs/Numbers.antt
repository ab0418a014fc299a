-- The cards of the openings' numbers, each by computation. Assumes nothing.
use Rattle.std.specs.Prelude.{refl}
use Rattle.opening.specs.Numbers.{NumberCards}

pub number_cards : NumberCards
number_cards = record {
  request_opened = λ image t a. refl;
  request_refused = λ image r. refl;
  boot_opened = λ image t a. refl;
  boot_refused = λ image r. refl;
  cold = λ image x a. refl;
  kept = λ image a. refl;
  updated = λ image x a. refl;
  disabled = λ image a. refl;
  no_outcome = λ image r. refl;
}

-- The proof of demand 3: the encoding of a state (Encoded), what holds of every history's chain (Good), stores into an image (Stores), what each kind of
-- work does (Runs, Laws), image and ledger in step between works and within (Ground, Sim), the theorem (Demand), and what it says of two lists (Check).
pub mod Encoded
pub mod Stores
pub mod Good
pub mod Runs
pub mod Clears
pub mod Orders
pub mod Freeing
pub mod Laws
pub mod Ground
pub mod Sim
pub mod Demand
pub mod Never
pub mod Check

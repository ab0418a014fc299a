-- Where each field of the memory image stands, as names and as figures; byte strings as words; numbers below a bound; the numbers handed back.
pub mod Sizes
pub mod Words
pub mod Below
pub mod Refusals
pub mod Numbers
pub mod Geometry
pub mod Figures

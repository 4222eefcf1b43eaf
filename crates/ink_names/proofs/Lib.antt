-- Laws of names and of the search that several proofs cite, here and in the crates above.
pub mod Firsts
pub mod Refused
pub mod Named
pub mod Found
pub mod Laws
pub mod Parts

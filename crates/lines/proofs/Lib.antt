-- Laws that several proofs cite, and the paper's two examples.
pub mod Lines
pub mod Examples

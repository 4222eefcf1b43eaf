pub mod Replies
pub mod RoundTrips

pub mod Statuses
pub mod Replies
pub mod Steps
pub mod Requests
pub mod Answers
pub mod Listed
pub mod Examples
pub mod HeldReplies

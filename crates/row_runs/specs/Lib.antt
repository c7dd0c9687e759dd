pub mod ReplyLists

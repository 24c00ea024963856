pub mod DueLaws
mod OrderLaws
mod Queues

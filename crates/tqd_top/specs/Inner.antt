-- What the steps of a command do. Nothing here is promised to a caller: `run` and `run_plain` promise what
-- specs/Headline.antt says.
pub mod ReadBook
pub mod Steps
pub mod Solution
pub mod Saving
pub mod Solving
pub mod Checking
pub mod Cuts
pub mod Runs

pub mod Turns
pub mod Issuing
pub mod Sound
pub mod Scaling
mod Obeying
mod Lining
mod Noting
mod FirstDue
mod Opening
mod Queueing
mod Keeping
mod Joins
mod Entering
mod Readying
mod Going
mod Firsts
mod GoingOn
pub mod Seating
mod Workers
mod Counting
mod Ending

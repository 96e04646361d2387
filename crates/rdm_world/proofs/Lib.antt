-- Lists, and worlds in which one port changed:
pub mod Results
pub mod Lists
pub mod Putting
pub mod NextSteps
pub mod PollSteps
pub mod PushSteps
pub mod HandleSteps
-- Worlds that are reached, and the rounds:
pub mod Reached
pub mod Inboxes
pub mod Visiting
pub mod Trying
pub mod Settling
-- Budgets:
pub mod Budgets
-- The joint history, by classes of stamps:
pub mod GatheredPairs
pub mod GatheredClasses
pub mod GatheredOrder
pub mod GatheredLogs
pub mod Gathered
pub mod OwnLogs
pub mod EagerStays
pub mod Playing
pub mod Entering

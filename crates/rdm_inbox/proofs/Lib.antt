-- Lists; what is in flight; the account of an inbox; that each step keeps the rule.
mod Places
mod Flights
mod Accounts
mod Steps
mod Wholes
mod Rules
mod Passing
mod Pointwise
mod Dealing
mod Collecting
mod Joining
mod Settling
mod Serving
mod Gathered
mod Openings
mod Sharings

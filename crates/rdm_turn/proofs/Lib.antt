-- Views in a list, where one changes or one is new.
mod Views
-- Each step, split and join keeps the rule; so it begins, and this is what it says at the end.
mod Keeps
mod Seats
-- Values in slots.
mod Values

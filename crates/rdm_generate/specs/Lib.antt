-- The text of a generated job.
pub mod Draws
pub mod Instructions
pub mod Programs
pub mod Script

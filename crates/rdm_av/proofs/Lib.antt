mod HeldLives
mod Answered
mod Law

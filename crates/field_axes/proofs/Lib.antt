mod Numbers
mod Answered
mod Paneling
mod Reporting
mod RunRefusals
mod Following

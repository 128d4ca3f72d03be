mod Numbers
mod OneAsked
mod OneRun
mod Rows

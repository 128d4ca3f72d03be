mod Answering
mod OneAnswer
mod OneRefusal
mod Running
mod Telling

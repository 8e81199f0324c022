mod Continuing
mod Following
mod Beginning
mod Children
mod Entering

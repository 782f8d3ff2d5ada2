mod Firsts
mod ClashLaws
mod Numbers
mod Turning
mod TypedLaws
mod Orders

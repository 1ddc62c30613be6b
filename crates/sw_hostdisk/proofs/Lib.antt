mod Orders
mod Untold

mod Fields
mod Lengths

mod Apps
mod Faults
mod Names
mod Numbers

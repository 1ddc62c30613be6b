mod Bodies
mod Cuts
mod Escapes
mod Numbers
mod Readings
mod ShortWords
mod WordCounts

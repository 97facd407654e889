mod Draining
mod ReadParts

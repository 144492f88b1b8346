mod Causes
mod Copies
mod Rounds
mod Scans

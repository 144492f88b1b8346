mod Sounds

mod Pushes

mod Underway

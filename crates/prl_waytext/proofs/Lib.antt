mod Flats
mod Told

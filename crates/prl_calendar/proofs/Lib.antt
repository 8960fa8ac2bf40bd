mod Places
mod Turning
mod Chained
mod Ordered
mod Queued

mod Seeks
mod Changes
mod Feeds

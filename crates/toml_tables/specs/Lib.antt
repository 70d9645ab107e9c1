pub mod Tables
pub use Tables.{document, is_key_among, all_keys, has_key, has_keys, string_at, array_at, item_count, is_count, places_after, places_at}

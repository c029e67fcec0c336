-- Lemmas that other crates cite, from modules that are otherwise only for this crate.
pub mod CallerLemmas

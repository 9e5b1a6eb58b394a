pub mod ReactionLemmas

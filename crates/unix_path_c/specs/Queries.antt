-- The results of queries: an order as a number (like C's `strcmp`), and the hash of a path (like
-- Rust's `DefaultHasher`).
use Rattle.std.specs.Prelude.{ℕ, ℤ, pos, negsuc, List, fold}
use Rattle.std.specs.declared.cmp.Ordering.{Ordering}
use Rattle.std.specs.declared.cmp.Ordering.TheVariants.{Less, Equal, Greater}
use Rattle.std.specs.Hash.DefaultHasher as sip
use Rattle.unix_path.specs.Hashed.{hash_input_of}
use Rattle.unix_path.specs.Parts.{Value}

-- -1 for less, 0 for equal, and 1 for greater
abbrev pub sign_of : Ordering → ℤ
sign_of Less = negsuc 0
sign_of Equal = pos 0
sign_of Greater = pos 1

-- the SipHash-1-3, with both keys 0, of the bytes that these components feed to a hasher
unfoldable pub path_hash : List Value → ℕ
path_hash vs = sip.finish (fold sip.write sip.initial (hash_input_of vs))

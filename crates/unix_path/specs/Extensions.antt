-- The result of adding an extension (Rust's `PathBuf::add_extension`), and the slash that makes an
-- extension invalid.
use Rattle.std.specs.Prelude.{ℕ, ◌+◌, ◌==◌, Bool, List, [], ◌∷◌, ◌++◌, length, take, Option, codes}
use Rattle.std.specs.Prelude.{option_map, if◌then◌else◌}
use Rattle.std.specs.Option.{option_map_or}
use Rattle.std.specs.List.{list_any}
use Rattle.unix_path.specs.Parts.{dot, is_slash, parts, values}
use Rattle.unix_path.specs.Names.{file_name_of}
use Rattle.unix_path.specs.Edits.{last_start_of}
use Rattle.unix_path.specs.declared.buf.extensions.ExtensionError.{ExtensionError}
use Rattle.unix_path.specs.declared.buf.extensions.ExtensionError.TheVariants.{Separator, Memory}

-- at least one of the bytes of s is a slash
abbrev pub has_slash : List ℕ → Bool
has_slash s = list_any is_slash s

-- the index where the file name of s ends, or None if s has no file name
unfoldable pub name_end_of : List ℕ → Option ℕ
name_end_of s = option_map (λ name. last_start_of (parts s) + length name) (file_name_of (values s))

-- s up to the end of its file name, then a dot and the extension; all of s if it has no file name,
-- or if the extension is empty
unfoldable pub added_extension_of : List ℕ → List ℕ → List ℕ
added_extension_of s extension =
    if length extension == 0 then s
    else option_map_or (λ end. (take end s ++ dot ∷ []) ++ extension) (name_end_of s) s

-- the text that is printed for an error of setting or adding an extension
abbrev pub extension_error_text : ExtensionError → List ℕ
extension_error_text Separator = codes "extension contains a separator"
extension_error_text (Memory error) = codes "out of memory"

-- Listings are read line by line.
use Rattle.std.proofs.Common.{◌≡◌, ◌≢◌, ◌≤◌, ◌<◌, ◌+◌, ◌==◌, ℕ, true, false}
use Rattle.std.proofs.Common.{List, [], ◌∷◌, ◌++◌, Option, Some}
use Rattle.std.proofs.Common.{None, refl, sym, ap, ap₂, ◌∙◌, subst}
use Rattle.std.proofs.Common.{arith, length, append-nil, append_assoc, length-append}
use Rattle.std.specs.List.{list_all, onto_first}
use Rattle.std.specs.Option.{option_map}
use Rattle.std.proofs.lemmas.Bool.Decides.{nat_tests}
use Rattle.std.proofs.lemmas.List.Splits.{slice_split-cons_no}
use Rattle.path_archive.specs.Entries.{EntryValue}
use Rattle.path_archive.specs.Records.{entries_in, entries_of, fields_of}
use Rattle.tar_listing.specs.Form.{Begins, IsLine, IsListing, IsRead, IsRefusedAt, is_byte}
use Rattle.tar_listing.specs.Reading.{IsEntryPushed, kind_code, made, record_of}
use Rattle.tar_listing.specs.declared.columns.Kind.{Kind}
use Rattle.tar_listing.specs.declared.columns.Kind.TheVariants.{Directory, File, Symlink, HardLink}
use Rattle.tar_listing.specs.declared.columns.Kind.TheVariants.{Other}
use Rattle.tar_listing.proofs.lemmas.LineLemmas.{line_longer, same_line}
use Rattle.tar_listing.proofs.lemmas.TextLemmas.{first_all}

no_nul : (b : ℕ) → is_byte b ≡ true → (b == 0) ≡ false
no_nul b e = grind (arith, nat_tests)

-- a field is what lies before its NUL
field : (s more : List ℕ) → list_all is_byte s ≡ true
    → fields_of (s ++ 0 ∷ more) ≡ s ∷ fields_of more
field [] more e = refl
field (b ∷ s) more e =
    let f = first_all is_byte b s e in
    slice_split-cons_no (λ b. b == 0) b (s ++ 0 ∷ more) (no_nul b f.0)
    ∙ ap (onto_first b) (field s more f.1)

-- the fields of a record
fields : (kind : Kind) (p t more : List ℕ) → list_all is_byte p ≡ true → list_all is_byte t ≡ true
    → fields_of (kind_code kind ∷ 0 ∷ (p ++ 0 ∷ (t ++ 0 ∷ more)))
    ≡ (kind_code kind ∷ []) ∷ p ∷ t ∷ fields_of more
fields kind p t more b c =
    field (kind_code kind ∷ []) (p ++ 0 ∷ (t ++ 0 ∷ more)) (code kind)
    ∙ ap (λ fs. (kind_code kind ∷ []) ∷ fs) (field p (t ++ 0 ∷ more) b
    ∙ ap (λ fs. p ∷ fs) (field t more c))
  where
    code : (kind : Kind) → list_all is_byte (kind_code kind ∷ []) ≡ true
    code Directory = refl
    code File = refl
    code Symlink = refl
    code HardLink = refl
    code Other = refl

-- the entry of a record's fields
entry_first : (kind : Kind) (p t : List ℕ) (fs : List (List ℕ))
    → entries_of ((kind_code kind ∷ []) ∷ p ∷ t ∷ fs)
    ≡ option_map (λ es. made kind p t ∷ es) (entries_of fs)
entry_first Directory p t fs = refl
entry_first File p t fs = refl
entry_first Symlink p t fs = refl
entry_first HardLink p t fs = refl
entry_first Other p t fs = refl

-- the first record
pub record_first : (kind : Kind) (p t more : List ℕ) → list_all is_byte p ≡ true
    → list_all is_byte t ≡ true
    → entries_in (record_of kind p t ++ more)
    ≡ option_map (λ es. made kind p t ∷ es) (entries_in more)
unfolding entries_in
record_first kind p t more b c =
    ap (λ s. entries_of (fields_of (kind_code kind ∷ 0 ∷ s)))
    (append_assoc p (0 ∷ (t ++ 0 ∷ [])) more
    ∙ ap (λ s. p ++ 0 ∷ s) (append_assoc t (0 ∷ []) more))
    ∙ ap entries_of (fields kind p t more b c) ∙ entry_first kind p t (fields_of more)

-- the lines up to `rest` were read
pub record HasRead (listing rest : List ℕ) (line : ℕ) (records : List ℕ) : Type 0 where
  pub entries : List EntryValue
  pub lines : Begins listing entries rest
  pub number : line ≡ length entries + 1
  pub read : (more : List ℕ) → entries_in (records ++ more)
      ≡ option_map (λ es. entries ++ es) (entries_in more)

map_nothing : (o : Option (List EntryValue)) → o ≡ option_map (λ es. [] ++ es) o
map_nothing None = refl
map_nothing (Some es) = refl

pub has_read_first : (listing records : List ℕ) → records ≡ [] → HasRead listing listing 1 records
has_read_first listing records e = record {
  entries = [];
  lines = refl;
  number = refl;
  read = λ more. ap (λ s. entries_in (s ++ more)) e ∙ map_nothing (entries_in more);
}

-- one line more
begins_more : (listing mid rest : List ℕ) (es : List EntryValue) (e : EntryValue)
    → Begins listing es mid → IsLine mid e rest → Begins listing (es ++ e ∷ []) rest
begins_more listing mid rest [] e b l =
    (rest, subst (λ s. IsLine s e rest) (sym b) l, refl)
begins_more listing mid rest (d ∷ es) e b l =
    (b.0, b.1, begins_more b.0 mid rest es e b.2 l)

map_twice : (es : List EntryValue) (e : EntryValue) (o : Option (List EntryValue))
    → option_map (λ fs. es ++ fs) (option_map (λ fs. e ∷ fs) o)
    ≡ option_map (λ fs. (es ++ e ∷ []) ++ fs) o
map_twice es e None = refl
map_twice es e (Some fs) = ap Some (sym (append_assoc es (e ∷ []) fs))

-- the path of a line's entry has no NUL
made_path : (kind : Kind) (p t line rest : List ℕ) → IsLine line (made kind p t) rest
    → list_all is_byte p ≡ true
made_path Directory p t line rest l = l.path
made_path File p t line rest l = l.path
made_path Symlink p t line rest l = l.path
made_path HardLink p t line rest l = l.path
made_path Other p t line rest l = l.path

pub has_read_more : (listing mid rest records new : List ℕ) (line : ℕ)
    → HasRead listing mid line records → IsEntryPushed mid rest records new
    → HasRead listing rest (line + 1) new
has_read_more listing mid rest records new line h p =
    let e = made p.kind p.path p.target in
    let size = length-append h.entries (e ∷ []) in
    let one : length (e ∷ []) ≡ 1 = refl in
    record {
      entries = h.entries ++ e ∷ [];
      lines = begins_more listing mid rest h.entries e h.lines p.is;
      number = omega (arith, size, h.number);
      read = λ more. ap (λ s. entries_in (s ++ more)) p.pushed
          ∙ ap entries_in (append_assoc records (record_of p.kind p.path p.target) more)
          ∙ h.read (record_of p.kind p.path p.target ++ more)
          ∙ ap (option_map (λ es. h.entries ++ es)) (record_first p.kind p.path p.target more
          (made_path p.kind p.path p.target mid rest p.is) p.bytes)
          ∙ map_twice h.entries e (entries_in more);
    }

nothing : (s : List ℕ) → length s ≡ 0 → s ≡ []
nothing [] e = refl
nothing (b ∷ s) e = absurd (omega arith)

pub has_read_end : (listing rest records : List ℕ) (line : ℕ)
    → HasRead listing rest line records → length rest ≡ 0 → IsRead listing records
unfolding entries_in
has_read_end listing rest records line h e = record {
  entries = h.entries;
  lines = subst (λ r. Begins listing h.entries r) (nothing rest e) h.lines;
  read = ap entries_in (sym (append-nil records)) ∙ h.read []
      ∙ ap Some (append-nil h.entries);
}

pub refused_at : (listing rest records : List ℕ) (line : ℕ)
    → HasRead listing rest line records → length rest ≢ 0
    → ((e : EntryValue) (after : List ℕ) → IsLine rest e after → ⊥) → IsRefusedAt listing line
refused_at listing rest records line h some none = record {
  entries = h.entries;
  rest = rest;
  lines = h.lines;
  number = h.number;
  more = λ e. some (ap length e);
  refused = none;
}

-- no line is empty
some_line : (e : EntryValue) (rest : List ℕ) → IsLine [] e rest → ⊥
some_line e rest l = let no = l.is in cc

-- a listing is of one list of entries
pub one_listing : (listing : List ℕ) (es fs : List EntryValue) → IsListing listing es
    → IsListing listing fs → es ≡ fs
one_listing listing [] [] a b = refl
one_listing listing [] (f ∷ fs) a b =
    absurd (some_line f b.0 (subst (λ s. IsLine s f b.0) a b.1))
one_listing listing (e ∷ es) [] a b =
    absurd (some_line e a.0 (subst (λ s. IsLine s e a.0) b a.1))
one_listing listing (e ∷ es) (f ∷ fs) a b =
    let l = same_line listing a.0 b.0 e f a.1 b.1 in
    ap₂ (λ e es. e ∷ es) l.0
    (one_listing b.0 es fs (subst (λ s. Begins s es []) l.1 a.2) b.2)

-- a listing that is refused is of no entries
never_listing : (listing rest : List ℕ) (es fs : List EntryValue) → Begins listing es rest
    → rest ≢ [] → ((e : EntryValue) (after : List ℕ) → IsLine rest e after → ⊥)
    → IsListing listing fs → ⊥
never_listing listing rest [] [] a some none b = some (sym a ∙ b)
never_listing listing rest [] (f ∷ fs) a some none b =
    none f b.0 (subst (λ s. IsLine s f b.0) a b.1)
never_listing listing rest (e ∷ es) [] a some none b =
    some_line e a.0 (subst (λ s. IsLine s e a.0) b a.1)
never_listing listing rest (e ∷ es) (f ∷ fs) a some none b =
    let l = same_line listing a.0 b.0 e f a.1 b.1 in
    never_listing b.0 rest es fs (subst (λ s. Begins s es rest) l.1 a.2) some none b.2

pub never_refused : (listing : List ℕ) (n : ℕ) (fs : List EntryValue) → IsRefusedAt listing n
    → IsListing listing fs → ⊥
never_refused listing n fs r b =
    never_listing listing r.rest r.entries fs r.lines r.more r.refused b

-- the lines up to `rest` were read, and there are few of them
pub record Reads (listing rest : List ℕ) (line : ℕ) (records : List ℕ) : Type 0 where
  pub read : HasRead listing rest line records
  pub few : line + length rest ≤ length listing + 1

pub reads_first : (listing records : List ℕ) → records ≡ [] → Reads listing listing 1 records
reads_first listing records e = record {
  read = has_read_first listing records e;
  few = omega arith;
}

pub reads_more : (listing mid rest records new : List ℕ) (line : ℕ) → Reads listing mid line records
    → IsEntryPushed mid rest records new → Reads listing rest (line + 1) new
reads_more listing mid rest records new line h p =
    let l = line_longer mid rest (made p.kind p.path p.target) p.is in
    let few = h.few in
    record { read = has_read_more listing mid rest records new line h.read p; few = omega arith }

pub reads_shorter : (mid rest records new : List ℕ) → IsEntryPushed mid rest records new
    → length rest < length mid
reads_shorter mid rest records new p = line_longer mid rest (made p.kind p.path p.target) p.is

pub reads_back : (listing : List ℕ) (entries : List EntryValue) → IsListing listing entries
    → (records : List ℕ) → IsRead listing records → entries_in records ≡ Some entries
reads_back listing entries is records r =
    r.read ∙ ap Some (one_listing listing r.entries entries r.lines is)

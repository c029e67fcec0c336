-- Lines are read as they were listed.
use Rattle.std.proofs.Common.{◌≡◌, ◌≢◌, ◌≤◌, ◌<◌, ◌+◌, ◌-◌, ◌==◌, ◌&&◌, not, ℕ, Bool, true, false}
use Rattle.std.proofs.Common.{List, [], ◌∷◌, ◌++◌, Some, None, refl, sym, ap, ap₂, ◌∙◌}
use Rattle.std.proofs.Common.{arith, length, take, drop, get_or, slice_range, suc, cond}
use Rattle.std.proofs.Common.{◌⊎◌, inl, inr}
use Rattle.std.proofs.Common.{append-nil, append_assoc, length-append}
use Rattle.std.specs.List.{list_all, position_or_len}
use Rattle.std.specs.Str.{byte}
use Rattle.std.proofs.lemmas.Bool.{eqb-true}
use Rattle.std.proofs.lemmas.List.{append_cancel_left}
use Rattle.std.proofs.lemmas.List.Sums.{passes_at_first, split_at_first}
use Rattle.std.proofs.lemmas.Option.{same_Some}
use Rattle.std.proofs.Math.Seq.{take-append_seam}
use Rattle.path_archive.specs.Entries.{EntryValue, DirectoryEntry, FileEntry, SymlinkEntry}
use Rattle.path_archive.specs.Entries.{HardLinkEntry, OtherEntry, path_of}
use Rattle.tar_listing.specs.Columns.{are_columns}
use Rattle.tar_listing.specs.Form.{IsLine, closed, is_byte, kind_in, kind_of, quoted}
use Rattle.tar_listing.specs.Form.{target_in, target_text}
use Rattle.tar_listing.specs.Reading.{CannotRead, IsEntryPushed, IsPushed}
use Rattle.tar_listing.specs.Reading.{StartsLine, kind_code, made}
use Rattle.tar_listing.specs.Reading.{after_words}
use Rattle.tar_listing.specs.declared.columns.Kind.{Kind}
use Rattle.tar_listing.specs.declared.columns.Kind.TheVariants.{Directory, File, Symlink, HardLink}
use Rattle.tar_listing.specs.declared.columns.Kind.TheVariants.{Other}
use Rattle.tar_listing.proofs.lemmas.TextLemmas.{longer, same_text}

-- the byte is a quote
abbrev pub is_quote : ℕ → Bool
is_quote b = b == byte "\""

-- the byte is no quote
abbrev pub is_plain : ℕ → Bool
is_plain b = not (b == byte "\"")

-- the first quote is after bytes that are none
quote_at : (cs more : List ℕ) → list_all is_plain cs ≡ true
    → position_or_len is_quote (cs ++ byte "\"" ∷ more) ≡ length cs
quote_at [] more e = refl
quote_at (c ∷ cs) more e = by (quote_at cs more) (c == byte "\"") refl e
  where
    by : (list_all is_plain cs ≡ true
        → position_or_len is_quote (cs ++ byte "\"" ∷ more) ≡ length cs)
        → (q : Bool) → (c == byte "\"") ≡ q → (not q && list_all is_plain cs) ≡ true
        → position_or_len is_quote (c ∷ cs ++ byte "\"" ∷ more) ≡ length (c ∷ cs)
    by rest true is f = absurd (cc)
    by rest false is f =
        let next : 1 + length cs ≡ suc (length cs) = omega arith in
        ap (λ q. cond (not q) (1 + position_or_len is_quote (cs ++ byte "\"" ∷ more)) 0) is
        ∙ ap (λ n. 1 + n) (rest f) ∙ next

-- the bytes before the first quote are none
plain_before : (s : List ℕ) → list_all is_plain (take (position_or_len is_quote s) s) ≡ true
plain_before [] = refl
plain_before (c ∷ s) = by (plain_before s) (c == byte "\"") refl
  where
    by : list_all is_plain (take (position_or_len is_quote s) s) ≡ true
        → (q : Bool) → (c == byte "\"") ≡ q
        → list_all is_plain (take (position_or_len is_quote (c ∷ s)) (c ∷ s)) ≡ true
    by rest true is =
        ap (λ q. list_all is_plain
        (take (cond (not q) (1 + position_or_len is_quote s) 0) (c ∷ s))) is
    by rest false is =
        let next : 1 + position_or_len is_quote s ≡ suc (position_or_len is_quote s) =
        omega arith in
        ap (λ q. list_all is_plain
        (take (cond (not q) (1 + position_or_len is_quote s) 0) (c ∷ s))) is
        ∙ ap (λ n. list_all is_plain (take n (c ∷ s))) next
        ∙ ap (λ q. not q && list_all is_plain (take (position_or_len is_quote s) s)) is
        ∙ rest

-- the start of a line, by the index of its first quote
pub record Started (line : List ℕ) (n : ℕ) (kind : Kind) (rest : List ℕ) : Type 0 where
  pub some : 0 < n
  pub inside : n < length line
  pub kind_is : kind_of (get_or line 0 0) ≡ Some kind
  pub form : are_columns (slice_range line 1 n) ≡ true
  pub rest_is : rest ≡ drop (n + 1) line

-- a letter is no quote
letter_plain : (letter : ℕ) (kind : Kind) → kind_of letter ≡ Some kind
    → is_plain letter ≡ true
letter_plain letter kind e = by (letter == byte "\"") refl
  where
    by : (q : Bool) → (letter == byte "\"") ≡ q → not q ≡ true
    by true is =
        let none : kind_of letter ≡ None = ap kind_of (eqb-true letter (byte "\"") is) in
        absurd (cc)
    by false is = refl

-- what follows a byte after some bytes
after_front : (front rest : List ℕ) → drop (length front + 1) (front ++ byte "\"" ∷ rest) ≡ rest
after_front [] rest = refl
after_front (c ∷ front) rest =
    let next : suc (length front) + 1 ≡ suc (length front + 1) = omega arith in
    ap (λ k. drop k (c ∷ front ++ byte "\"" ∷ rest)) next ∙ after_front front rest

pub started : (line : List ℕ) (n : ℕ) (kind : Kind) (rest : List ℕ) → StartsLine line kind rest
    → n ≡ position_or_len is_quote line → Started line n kind rest
started line n kind rest s e =
    let front : List ℕ = s.letter ∷ s.columns in
    let plain : list_all is_plain front ≡ true =
    ap₂ (λ a b. a && b) (letter_plain s.letter kind s.kind_is) s.unquoted in
    let is : line ≡ front ++ byte "\"" ∷ rest = s.is in
    let at : n ≡ length front =
    e ∙ ap (position_or_len is_quote) is ∙ quote_at front rest plain in
    let size : length line ≡ length front + length (byte "\"" ∷ rest) =
    ap length is ∙ length-append front (byte "\"" ∷ rest) in
    let after : length (byte "\"" ∷ rest) ≡ suc (length rest) = refl in
    let count : length front ≡ suc (length s.columns) = refl in
    let less : n - 1 ≡ length s.columns = omega arith in
    let next : n + 1 ≡ length front + 1 = omega arith in
    record {
      some = omega arith;
      inside = omega arith;
      kind_is = ap (λ l. kind_of (get_or l 0 0)) is ∙ s.kind_is;
      form = ap₂ (λ l k. are_columns (take k (drop 1 l))) is less
          ∙ ap are_columns (take-append_seam s.columns (byte "\"" ∷ rest)) ∙ s.form;
      rest_is = sym (ap₂ drop next is ∙ after_front front rest);
    }

-- a line starts so
pub starts : (line : List ℕ) (n : ℕ) (kind : Kind) → n ≡ position_or_len is_quote line
    → 0 < n → n < length line → kind_of (get_or line 0 0) ≡ Some kind
    → are_columns (slice_range line 1 n) ≡ true → StartsLine line kind (drop (n + 1) line)
starts [] n kind e some inside k f = absurd (omega arith)
starts (c ∷ s) n kind e some inside k f = by (c == byte "\"") refl e
  where
    by : (q : Bool) → (c == byte "\"") ≡ q
        → n ≡ cond (not (c == byte "\"")) (1 + position_or_len is_quote s) 0
        → StartsLine (c ∷ s) kind (drop (n + 1) (c ∷ s))
    by true is g =
        let none : n ≡ 0 = g ∙ ap (λ q. cond (not q) (1 + position_or_len is_quote s) 0) is in
        absurd (omega arith)
    by false is g =
        let m : ℕ = position_or_len is_quote s in
        let is_n : n ≡ 1 + m =
        g ∙ ap (λ q. cond (not q) (1 + position_or_len is_quote s) 0) is in
        let size : length (c ∷ s) ≡ suc (length s) = refl in
        let inner : position_or_len is_quote s < length s = omega arith in
        let less : n - 1 ≡ position_or_len is_quote s = omega arith in
        let next : n + 1 ≡ suc (position_or_len is_quote s + 1) = omega arith in
        let quote : get_or s (position_or_len is_quote s) 0 ≡ byte "\"" =
        eqb-true (get_or s (position_or_len is_quote s) 0) (byte "\"")
        (passes_at_first is_quote s 0 inner) in
        let after : drop (n + 1) (c ∷ s) ≡ drop (position_or_len is_quote s + 1) s =
        ap (λ k. drop k (c ∷ s)) next in
        record {
          letter = c;
          columns = take (position_or_len is_quote s) s;
          is = ap (λ t. c ∷ t) (split_at_first is_quote s 0 inner
              ∙ ap₂ (λ b t. take (position_or_len is_quote s) s ++ b ∷ t) quote (sym after));
          kind_is = k;
          form = ap (λ j. are_columns (take j s)) (sym less) ∙ f;
          unquoted = plain_before s;
        }

-- a line starts in one way
pub one_start : (line : List ℕ) (k l : Kind) (x y : List ℕ) → StartsLine line k x
    → StartsLine line l y → (k ≡ l) × (x ≡ y)
one_start line k l x y s t =
    let a = started line (position_or_len is_quote line) k x s refl in
    let b = started line (position_or_len is_quote line) l y t refl in
    (same_Some k l (sym a.kind_is ∙ b.kind_is), a.rest_is ∙ sym b.rest_is)

-- an entry by its parts
made_again : (e : EntryValue) → made (kind_in e) (path_of e) (target_in e) ≡ e
made_again (DirectoryEntry p) = refl
made_again (FileEntry p) = refl
made_again (SymlinkEntry p t) = refl
made_again (HardLinkEntry p t) = refl
made_again (OtherEntry p) = refl

-- what follows the columns in a line, after the quote
abbrev pub later : Kind → List ℕ → List ℕ → List ℕ → List ℕ
later kind p t after = closed p (target_text kind t (byte "\n" ∷ after))

-- the start of an entry's line
pub line_starts : (line after : List ℕ) (e : EntryValue) → IsLine line e after
    → StartsLine line (kind_in e) (later (kind_in e) (path_of e) (target_in e) after)
line_starts line after e l = record {
  letter = l.letter;
  columns = l.columns;
  is = l.is;
  kind_is = l.kind;
  form = l.form;
  unquoted = l.unquoted;
}

-- one target is listed
pub same_target : (kind : Kind) (s t x y : List ℕ) → list_all is_byte s ≡ true
    → list_all is_byte t ≡ true → target_text kind s x ≡ target_text kind t y → x ≡ y
same_target Directory s t x y p q e = e
same_target File s t x y p q e = e
same_target Symlink s t x y p q e = (same_text s t x y p q (ap (drop 5) e)).1
same_target HardLink s t x y p q e = (same_text s t x y p q (ap (drop 10) e)).1
same_target Other s t x y p q e = e

pub same_made : (kind : Kind) (path s t x y : List ℕ) → list_all is_byte s ≡ true
    → list_all is_byte t ≡ true → target_text kind s x ≡ target_text kind t y
    → made kind path s ≡ made kind path t
same_made Directory path s t x y p q e = refl
same_made File path s t x y p q e = refl
same_made Symlink path s t x y p q e =
    ap (SymlinkEntry path) (same_text s t x y p q (ap (drop 5) e)).0
same_made HardLink path s t x y p q e =
    ap (HardLinkEntry path) (same_text s t x y p q (ap (drop 10) e)).0
same_made Other path s t x y p q e = refl

-- one entry is listed on a line
pub same_line : (line x y : List ℕ) (d e : EntryValue) → IsLine line d x → IsLine line e y
    → (d ≡ e) × (x ≡ y)
same_line line x y d e l m =
    let start = one_start line (kind_in d) (kind_in e)
    (later (kind_in d) (path_of d) (target_in d) x) (later (kind_in e) (path_of e) (target_in e) y)
    (line_starts line x d l) (line_starts line y e m) in
    let names = same_text (path_of d) (path_of e)
    (target_text (kind_in d) (target_in d) (byte "\n" ∷ x))
    (target_text (kind_in e) (target_in e) (byte "\n" ∷ y)) l.path m.path start.1 in
    let targets : target_text (kind_in d) (target_in d) (byte "\n" ∷ x)
    ≡ target_text (kind_in d) (target_in e) (byte "\n" ∷ y) =
    names.1 ∙ ap (λ k. target_text k (target_in e) (byte "\n" ∷ y)) (sym start.0) in
    let rests = same_target (kind_in d) (target_in d) (target_in e) (byte "\n" ∷ x)
    (byte "\n" ∷ y) l.target m.target targets in (
      sym (made_again d)
          ∙ same_made (kind_in d) (path_of d) (target_in d) (target_in e) (byte "\n" ∷ x)
          (byte "\n" ∷ y) l.target m.target targets
          ∙ ap₂ (λ k p. made k p (target_in e)) start.0 names.0 ∙ made_again e,
      ap (drop 1) rests,
    )

-- the line of an entry by its parts
made_line : (kind : Kind) (p t line after columns : List ℕ) (letter : ℕ)
    → line ≡ letter ∷ columns ++ quoted p (target_text kind t (byte "\n" ∷ after))
    → kind_of letter ≡ Some kind → are_columns columns ≡ true → list_all is_plain columns ≡ true
    → p ≢ [] → list_all is_byte p ≡ true → list_all is_byte t ≡ true
    → IsLine line (made kind p t) after
made_line Directory p t line after columns letter e k f u n b c = record {
  letter = letter;
  columns = columns;
  is = e;
  kind = k;
  form = f;
  unquoted = u;
  named = n;
  path = b;
  target = refl;
}
made_line File p t line after columns letter e k f u n b c = record {
  letter = letter;
  columns = columns;
  is = e;
  kind = k;
  form = f;
  unquoted = u;
  named = n;
  path = b;
  target = refl;
}
made_line Symlink p t line after columns letter e k f u n b c = record {
  letter = letter;
  columns = columns;
  is = e;
  kind = k;
  form = f;
  unquoted = u;
  named = n;
  path = b;
  target = c;
}
made_line HardLink p t line after columns letter e k f u n b c = record {
  letter = letter;
  columns = columns;
  is = e;
  kind = k;
  form = f;
  unquoted = u;
  named = n;
  path = b;
  target = c;
}
made_line Other p t line after columns letter e k f u n b c = record {
  letter = letter;
  columns = columns;
  is = e;
  kind = k;
  form = f;
  unquoted = u;
  named = n;
  path = b;
  target = refl;
}

-- an entry whose line was read, and whose record was appended
pub entry_pushed : (line rest mid end after old first named later new : List ℕ) (kind : Kind)
    → StartsLine line kind rest
    → IsPushed closed rest mid first named → length named ≢ length first
    → IsPushed (target_text kind) mid end later new
    → end ≡ byte "\n" ∷ after
    → first ≡ (old ++ kind_code kind ∷ []) ++ 0 ∷ [] → later ≡ named ++ 0 ∷ []
    → IsEntryPushed line after old (new ++ 0 ∷ [])
entry_pushed line rest mid end after old first named later new kind s p n t e f l = record {
  kind = kind;
  path = p.text;
  target = t.text;
  is = made_line kind p.text t.text line after s.columns s.letter
      (s.is ∙ ap (λ r. s.letter ∷ s.columns ++ byte "\"" ∷ r)
      (p.is ∙ ap (closed p.text) (t.is ∙ ap (target_text kind t.text) e)))
      s.kind_is s.form s.unquoted
      (λ none. n (ap length (p.pushed ∙ ap (λ t. first ++ t) none) ∙ length-append first []
      ∙ omega arith))
      p.bytes t.bytes;
  bytes = t.bytes;
  pushed = ap (λ s. s ++ 0 ∷ []) (t.pushed ∙ ap (λ s. s ++ t.text)
      (l ∙ ap (λ s. s ++ 0 ∷ []) (p.pushed ∙ ap (λ s. s ++ p.text) f)))
      ∙ joined old (kind_code kind) p.text t.text;
}
  where
    joined : (old : List ℕ) (k : ℕ) (p t : List ℕ)
        → (((((old ++ k ∷ []) ++ 0 ∷ []) ++ p) ++ 0 ∷ []) ++ t) ++ 0 ∷ []
        ≡ old ++ k ∷ 0 ∷ (p ++ 0 ∷ (t ++ 0 ∷ []))
    joined old k p t = simp append_assoc

-- no entry is on a line that doesn't start so
pub no_start : (line after : List ℕ) (e : EntryValue)
    → ((k : Kind) (rest : List ℕ) → StartsLine line k rest → ⊥) → IsLine line e after → ⊥
no_start line after e none l = none _ _ (line_starts line after e l)

-- what is left of an entry's line after its start
later_is : (line rest after : List ℕ) (kind : Kind) (e : EntryValue) → StartsLine line kind rest
    → IsLine line e after
    → (kind ≡ kind_in e) × (rest ≡ later kind (path_of e) (target_in e) after)
later_is line rest after kind e s l =
    let start = one_start line kind (kind_in e) rest
    (later (kind_in e) (path_of e) (target_in e) after) s (line_starts line after e l) in (
      start.0,
      start.1
          ∙ ap (λ k. later k (path_of e) (target_in e) after) (sym start.0),
    )

-- no entry is on a line without a name
pub no_name : (line rest after : List ℕ) (kind : Kind) (e : EntryValue) → StartsLine line kind rest
    → CannotRead closed rest → IsLine line e after → ⊥
no_name line rest after kind e s none l =
    none (path_of e) (target_text kind (target_in e) (byte "\n" ∷ after)) l.path
    (later_is line rest after kind e s l).1

-- the name of an entry's line
name_is : (line rest mid after old new : List ℕ) (kind : Kind) (e : EntryValue)
    → StartsLine line kind rest → IsPushed closed rest mid old new → IsLine line e after
    → (new ≡ old ++ path_of e) × (mid ≡ target_text kind (target_in e) (byte "\n" ∷ after))
name_is line rest mid after old new kind e s p l =
    let names = same_text p.text (path_of e) mid
    (target_text kind (target_in e) (byte "\n" ∷ after)) p.bytes l.path
    (sym p.is ∙ (later_is line rest after kind e s l).1) in
    (p.pushed ∙ ap (λ t. old ++ t) names.0, names.1)

-- no entry has an empty name
pub no_empty : (line rest mid after old new : List ℕ) (kind : Kind) (e : EntryValue)
    → StartsLine line kind rest → IsPushed closed rest mid old new → length new ≡ length old
    → IsLine line e after → ⊥
no_empty line rest mid after old new kind e s p same l =
    let name = name_is line rest mid after old new kind e s p l in
    let size = sym same ∙ ap length name.0 ∙ length-append old (path_of e) in
    l.named (nothing (path_of e) (omega (arith, size)))
  where
    nothing : (s : List ℕ) → length s ≡ 0 → s ≡ []
    nothing [] e = refl
    nothing (b ∷ s) e = absurd (omega arith)

-- no entry is on a line without its target
pub no_target : (line rest mid after old new : List ℕ) (kind : Kind) (e : EntryValue)
    → StartsLine line kind rest → IsPushed closed rest mid old new
    → CannotRead (target_text kind) mid → IsLine line e after → ⊥
no_target line rest mid after old new kind e s p none l =
    none (target_in e) (byte "\n" ∷ after) l.target
    (name_is line rest mid after old new kind e s p l).1

-- no entry is on a line without its end
pub no_end : (line rest mid end after old new later last : List ℕ) (kind : Kind) (e : EntryValue)
    → StartsLine line kind rest → IsPushed closed rest mid old new
    → IsPushed (target_text kind) mid end later last
    → ((more : List ℕ) → end ≡ byte "\n" ∷ more → ⊥) → IsLine line e after → ⊥
no_end line rest mid end after old new later last kind e s p t none l =
    none after (same_target kind t.text (target_in e) end (byte "\n" ∷ after) t.bytes l.target
    (sym t.is ∙ (name_is line rest mid after old new kind e s p l).1))

-- words before a text
pub words_pushed : (words s rest after old new : List ℕ) → s ≡ words ++ rest
    → IsPushed closed rest after old new → IsPushed (after_words words) s after old new
words_pushed words s rest after old new e p = record {
  text = p.text;
  bytes = p.bytes;
  is = e ∙ ap (λ r. words ++ r) p.is;
  pushed = p.pushed;
}

pub no_words : (words s : List ℕ) → ((rest : List ℕ) → s ≡ words ++ rest → ⊥)
    → CannotRead (after_words words) s
no_words words s none text after b e = none (closed text after) e

pub no_text : (words s rest : List ℕ) → s ≡ words ++ rest → CannotRead closed rest
    → CannotRead (after_words words) s
no_text words s rest e none text after b f =
    none text after b (append_cancel_left words rest (closed text after) (sym e ∙ f))

-- nothing before no target
pub nothing_pushed : (s old : List ℕ) → IsPushed (λ t more. more) s s old old
nothing_pushed s old = record { text = []; bytes = refl; is = refl; pushed = sym (append-nil old) }

target_longer : (kind : Kind) (t more : List ℕ) → length more ≤ length (target_text kind t more)
target_longer Directory t more = omega arith
target_longer File t more = omega arith
target_longer Symlink t more =
    let l = longer t more in
    let size : length (target_text Symlink t more) ≡ 5 + length (closed t more) = omega arith in
    omega arith
target_longer HardLink t more =
    let l = longer t more in
    let size : length (target_text HardLink t more) ≡ 10 + length (closed t more) = omega arith in
    omega arith
target_longer Other t more = omega arith

-- a line isn't empty
pub line_longer : (line rest : List ℕ) (e : EntryValue) → IsLine line e rest
    → length rest < length line
line_longer line rest e l =
    let more : List ℕ = target_text (kind_in e) (target_in e) (byte "\n" ∷ rest) in
    let size = ap length l.is
    ∙ length-append (l.letter ∷ l.columns) (quoted (path_of e)
    (target_text (kind_in e) (target_in e) (byte "\n" ∷ rest))) in
    let quote : length (quoted (path_of e)
    (target_text (kind_in e) (target_in e) (byte "\n" ∷ rest)))
    ≡ suc (length (closed (path_of e)
    (target_text (kind_in e) (target_in e) (byte "\n" ∷ rest)))) = refl in
    let name = longer (path_of e) (target_text (kind_in e) (target_in e) (byte "\n" ∷ rest)) in
    let target = target_longer (kind_in e) (target_in e) (byte "\n" ∷ rest) in
    let end : length (byte "\n" ∷ rest) ≡ suc (length rest) = refl in
    omega arith

-- a line that starts so has its first quote in it
pub never_started : (line : List ℕ) (n : ℕ) → n ≡ position_or_len is_quote line
    → (n ≡ 0) ⊎ ((n ≡ 0 → ⊥) × (n ≡ length line)) → (kind : Kind) (rest : List ℕ)
    → StartsLine line kind rest → ⊥
never_started line n e (inl none) kind rest s =
    let t = started line n kind rest s e in omega arith
never_started line n e (inr all) kind rest s =
    let t = started line n kind rest s e in
    let end : n ≡ length line = all.1 in
    omega arith

pub never_kind : (line : List ℕ) (n : ℕ) → n ≡ position_or_len is_quote line
    → kind_of (get_or line 0 0) ≡ None → (kind : Kind) (rest : List ℕ)
    → StartsLine line kind rest → ⊥
never_kind line n e none kind rest s =
    let t = started line n kind rest s e in let k = t.kind_is in cc

pub never_columns : (line : List ℕ) (n : ℕ) → n ≡ position_or_len is_quote line
    → are_columns (slice_range line 1 n) ≡ false → (kind : Kind) (rest : List ℕ)
    → StartsLine line kind rest → ⊥
never_columns line n e none kind rest s =
    let t = started line n kind rest s e in let k = t.form in cc

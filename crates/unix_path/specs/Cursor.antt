-- What a cursor, which is a walk over the components of a path, represents, and what each of its
-- calls yields and leaves.
use Rattle.std.specs.Prelude.{List, ℕ, ◌+◌, ◌≡◌, Option, length, map, slice_range}
use Rattle.std.specs.Borrow.{Bor}
use Rattle.std.specs.Iterator.{YieldsFirstBy, YieldsLastBy}
use Rattle.unix_path.specs.Parts.{Value, values, value_bytes}
use Rattle.unix_path.specs.Rest.{rest}
use Rattle.unix_path.specs.Slices.{LiesIn, memory_offset}
use Rattle.unix_path.specs.Views.{value_of}
use Rattle.unix_bytes.specs.declared.bytes.UnixStr.{UnixStr}
use Rattle.unix_path.specs.declared.cursor.component.Component.{Component}
use Rattle.unix_path.specs.declared.cursor.walk.Components.{Components}
use Rattle.unix_path.specs.declared.cursor.iter.Iter.{Iter}

-- the bytes that a cursor represents: the bytes of its source from index `start` up to `end`,
-- exclusive
unfoldable pub cursor_rest : Components → List ℕ
cursor_rest c = slice_range c.source.now c.start c.end

-- the slice that a cursor walks over; it contains the bytes that the cursor represents
abbrev pub cursor_source : Components → Bor (List ℕ)
cursor_source c = c.source

-- the index in memory where the bytes that a cursor represents begin
abbrev pub cursor_start : Components → ℕ
cursor_start c = memory_offset c.source + c.start

-- the values that a cursor has yet to yield
abbrev pub cursor_values : Components → List Value
cursor_values c = values (cursor_rest c)

-- the cursor whose components an `Iter` yields, as byte strings
abbrev pub iter_cursor : Iter → Components
iter_cursor it = it.components

-- the bytes of each value that an `Iter` has yet to yield
abbrev pub iter_bytes : Iter → List (List ℕ)
iter_bytes it = map value_bytes (cursor_values (iter_cursor it))

-- a call of a walk yields the item that `shows` maps to the first value of `pending old`, if there
-- is one, and its cursor has left the rest after the first component, in the same memory and with
-- the same end
pub record GivesFirst {S A V : Type 0} (shows : A → V) (pending : S → List V)
    (cursor : S → Components) (old : S) (item : Option A) (new : S) : Type 0 where
  pub item_is : YieldsFirstBy shows pending old item new
  pub rest_is : cursor_rest (cursor new) ≡ rest (cursor_rest (cursor old)) 1 0
  pub place_is : LiesIn (cursor_source (cursor new)) (cursor_source (cursor old))
  pub end_is : cursor_start (cursor new) + length (cursor_rest (cursor new))
      ≡ cursor_start (cursor old) + length (cursor_rest (cursor old))

-- a call of a walk yields the item that `shows` maps to the last value of `pending old`, if there
-- is one, and its cursor has left the rest before the last component, in the same memory and with
-- the same beginning
pub record GivesLast {S A V : Type 0} (shows : A → V) (pending : S → List V)
    (cursor : S → Components) (old : S) (item : Option A) (new : S) : Type 0 where
  pub item_is : YieldsLastBy shows pending old item new
  pub rest_is : cursor_rest (cursor new) ≡ rest (cursor_rest (cursor old)) 0 1
  pub place_is : LiesIn (cursor_source (cursor new)) (cursor_source (cursor old))
  pub start_is : cursor_start (cursor new) ≡ cursor_start (cursor old)

-- what a call of `next` of a `Components` yields and leaves
abbrev pub GivesFirstPart : Components → Option Component → Components → Type 0
GivesFirstPart = GivesFirst value_of cursor_values (λ c. c)

-- what a call of `next_back` of a `Components` yields and leaves
abbrev pub GivesLastPart : Components → Option Component → Components → Type 0
GivesLastPart = GivesLast value_of cursor_values (λ c. c)

-- the bytes of a name
abbrev pub name_bytes : UnixStr → List ℕ
name_bytes name = name.bytes.now

-- what a call of `next` of an `Iter` yields and leaves
abbrev pub GivesFirstName : Iter → Option UnixStr → Iter → Type 0
GivesFirstName = GivesFirst name_bytes iter_bytes iter_cursor

-- what a call of `next_back` of an `Iter` yields and leaves
abbrev pub GivesLastName : Iter → Option UnixStr → Iter → Type 0
GivesLastName = GivesLast name_bytes iter_bytes iter_cursor

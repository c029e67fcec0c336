-- The number of operands before `--`.
use Rattle.std.proofs.Common.{◌≡◌, ℕ, ◌+◌, false, List, [], ◌∷◌, ◌++◌, length}
use Rattle.std.proofs.Common.{Option, Some, None, map, refl, sym, ap, ◌∙◌, one-add, arith}
use Rattle.std.proofs.Common.{if◌then◌else◌, add_assoc}
use Rattle.std.specs.List.{before_first, cons_option, list_any, position_or_len}
use Rattle.upath_commands.specs.declared.items.ItemKind.{ItemKind}
use Rattle.upath_commands.specs.declared.items.ItemKind.TheVariants as kind
use Rattle.upath_commands.specs.Arguments.{dashes_at, is_dashes, operand_of, operands_of}
use Rattle.upath_commands.specs.Items.{ItemValue, operand}
use Rattle.upath_commands.proofs.lemmas.RecordLemmas.{by_test}

-- the number, if n operands come before these items
abbrev pub dashes_after : ℕ → List ItemValue → ℕ
dashes_after n items =
    if list_any is_dashes items then n + length (operands_of (before_first is_dashes items)) else 0

before_first-other : (item : ItemValue) (items : List ItemValue) → is_dashes item ≡ false
    → before_first is_dashes (item ∷ items) ≡ item ∷ before_first is_dashes items
before_first-other item items e =
    rw e (rw (one-add (position_or_len is_dashes items)) refl)

length-cons_option : (found : Option (List ℕ)) (xs : List (List ℕ))
    → length (cons_option found xs) ≡ length (cons_option found []) + length xs
length-cons_option None xs = omega arith
length-cons_option (Some x) xs = omega arith

-- an item that isn't `--` may be an operand
pub dashes_after-next : (n m : ℕ) (item : ItemValue) (items : List ItemValue)
    → is_dashes item ≡ false → m ≡ n + length (operands_of (item ∷ []))
    → dashes_after n (item ∷ items) ≡ dashes_after m items
dashes_after-next n m item items e d =
    let rest = operands_of (before_first is_dashes items) in
    rw (before_first-other item items e) (rw e (by_test (list_any is_dashes items)
    (λ t. rw t (ap (λ k. n + k) (length-cons_option (operand_of item) rest)
    ∙ sym (add_assoc n (length (operands_of (item ∷ []))) (length rest))
    ∙ ap (λ k. k + length rest) (sym d)))
    (λ t. rw t refl)))

-- without operands before them
pub dashes_at-after : (items : List ItemValue) → dashes_at items ≡ dashes_after 0 items
dashes_at-after items =
    let n = length (operands_of (before_first is_dashes items)) in
    ap (λ k. if list_any is_dashes items then k else 0) {x = n} {y = 0 + n} (omega arith)

-- operands before the items count
dashes_after-operands : (before : List (List ℕ)) (n : ℕ) (items : List ItemValue)
    → dashes_after n (map operand before ++ items) ≡ dashes_after (n + length before) items
dashes_after-operands [] n items = ap (λ m. dashes_after m items) {x = n} {y = n + 0} (omega arith)
dashes_after-operands (b ∷ before) n items =
    dashes_after-next n (n + 1) (operand b) (map operand before ++ items) refl refl
    ∙ dashes_after-operands before (n + 1) items
    ∙ ap (λ m. dashes_after m items) {x = n + 1 + length before} {y = n + length (b ∷ before)}
    (omega arith)

-- an item that is no operand doesn't count
dashes_after-other : (n : ℕ) (item : ItemValue) (items : List ItemValue)
    → is_dashes item ≡ false → operand_of item ≡ None
    → dashes_after n (item ∷ items) ≡ dashes_after n items
dashes_after-other n item items h none =
    dashes_after-next n n item items h (rw none (omega arith))

-- such an item may come before or after operands
pub dashes-moved : (item : ItemValue) (before : List (List ℕ)) (items : List ItemValue)
    → is_dashes item ≡ false → operand_of item ≡ None
    → dashes_at (map operand before ++ item ∷ items)
    ≡ dashes_at (item ∷ (map operand before ++ items))
dashes-moved item before items h none =
    let n = 0 + length before in
    let rest = map operand before ++ items in
    dashes_at-after (map operand before ++ item ∷ items)
    ∙ dashes_after-operands before 0 (item ∷ items) ∙ dashes_after-other n item items h none
    ∙ sym (dashes_at-after (item ∷ rest) ∙ dashes_after-other 0 item rest h none
    ∙ dashes_after-operands before 0 items)

-- an operand counts
pub dashes-operand : (n m : ℕ) (found : ItemKind) (bytes : List ℕ) (items : List ItemValue)
    → found ≡ kind.Operand → m ≡ n + 1
    → dashes_after m items ≡ dashes_after n ((found, bytes) ∷ items)
dashes-operand n m found bytes items is count =
    rw (is, count) (sym (dashes_after-next n (n + 1) (operand bytes) items refl refl))

-- another item than `--` doesn't
pub dashes-other : (n m : ℕ) (found : ItemKind) (bytes : List ℕ) (items : List ItemValue)
    → (found ≡ kind.Dashes → ⊥) → (found ≡ kind.Operand → ⊥) → m ≡ n
    → dashes_after m items ≡ dashes_after n ((found, bytes) ∷ items)
dashes-other n m kind.Operand bytes items dashes no_operand count = absurd (no_operand refl)
dashes-other n m kind.Dashes bytes items dashes no_operand count = absurd (dashes refl)
dashes-other n m (kind.Option f) bytes items dashes no_operand count =
    rw count (sym (dashes_after-other n (kind.Option f, bytes) items refl refl))
dashes-other n m (kind.Value f) bytes items dashes no_operand count =
    rw count (sym (dashes_after-other n (kind.Value f, bytes) items refl refl))
dashes-other n m (kind.Request r) bytes items dashes no_operand count =
    rw count (sym (dashes_after-other n (kind.Request r, bytes) items refl refl))
dashes-other n m (kind.Wrong w) bytes items dashes no_operand count =
    rw count (sym (dashes_after-other n (kind.Wrong w, bytes) items refl refl))

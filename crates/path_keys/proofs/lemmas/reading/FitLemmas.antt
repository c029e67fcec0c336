-- If a list vs may be all the components of a path, the canonical form of vs has exactly the
-- components vs.
use Rattle.std.proofs.Common.{◌≡◌, ◌<◌, ◌&&◌, ℕ, Bool, true, false, cond, List, [], ◌∷◌, ◌++◌}
use Rattle.std.proofs.Common.{arith, length, map, refl, sym, ap, ap₂, ◌∙◌, subst}
use Rattle.std.proofs.lemmas.List.{append_cancel_left}
use Rattle.std.specs.List.{AllByRecursion, slice_split}
use Rattle.std.specs.Str.{bytes_eq}
use Rattle.unix_path.specs.Parts.{Value, RootDir, CurDir, ParentDir, Normal, is_slash, slash}
use Rattle.unix_path.specs.Parts.{parent_dir, counts, value_of_piece, value_bytes}
use Rattle.unix_path.specs.Parts.{is_rooted, values}
use Rattle.unix_bytes.proofs.lemmas.lists.ListLemmas.{by_test}
use Rattle.unix_path.proofs.lemmas.parts.PartLemmas.{values-nil}
use Rattle.path_runs.specs.Spelling.{slashed_bytes, spelling_of}
use Rattle.path_runs.proofs.lemmas.joins.LeadLemmas.{dot_first}
use Rattle.path_runs.proofs.lemmas.spelling.PieceValueLemmas.{AllCount, HoldsOfPieces, NoSlash}
use Rattle.path_runs.proofs.lemmas.spelling.PieceValueLemmas.{inner_values-pieces, names_of}
use Rattle.path_runs.proofs.lemmas.spelling.PieceValueLemmas.{values-hold_rooted, values-rooted}
use Rattle.path_runs.proofs.lemmas.spelling.PieceValueLemmas.{values-rootless}
use Rattle.path_runs.proofs.lemmas.spelling.ReadBackLemmas.{names_of-join_with_byte}
use Rattle.path_runs.proofs.lemmas.spelling.ReadBackLemmas.{values-join_with_byte}
use Rattle.path_runs.proofs.lemmas.spelling.ReadBackLemmas.{values-join_with_byte_dot}
use Rattle.path_runs.proofs.lemmas.spelling.SpellLemmas.{spelling_of-nil, spelling_of-root}
use Rattle.path_runs.proofs.lemmas.spelling.SpellLemmas.{spelling_of-dot}
use Rattle.path_runs.proofs.lemmas.spelling.SpellLemmas.{spelling_of-cons}
use Rattle.path_keys.proofs.lemmas.values.Fitting.{Fits, AllFit}
use Rattle.unix_path.specs.CommonDir.{inner_values}
use Rattle.path_keys.specs.Codes.{IsComponent}
use Rattle.path_keys.specs.Keys.{key_of}
use Rattle.path_keys.proofs.lemmas.values.CodeLemmas.{IsCoded}
use Rattle.path_keys.proofs.lemmas.values.KeyLemmas.{key_of-append}
use Rattle.path_keys.proofs.lemmas.values.OrderLemmas.{key_of-begins}

-- if v may be a component of a path, v is `IsCoded`
pub Fits-coded : (first : Bool) (v : Value) → Fits first v → IsCoded v
Fits-coded first RootDir h = tt
Fits-coded first CurDir h = tt
Fits-coded first ParentDir h = tt
Fits-coded first (Normal name) h = (h.no_slash, h.some)

-- if vs may be components of a path, all of them are `IsCoded`
pub AllFit-coded : (first : Bool) (vs : List Value) → AllFit first vs → AllByRecursion IsCoded vs
AllFit-coded first [] h = tt
AllFit-coded first (v ∷ vs) h = (Fits-coded first v h.0, AllFit-coded false vs h.1)

-- if us and vs may be components of a path, and the key of us and then `rest` are the key of vs, vs
-- is us and then components whose key is `rest`
pub key_of-split : (first other : Bool) (us vs : List Value) (rest : List ℕ) → AllFit first us
    → AllFit other vs → key_of us ++ rest ≡ key_of vs
    → (ws : List Value) × (us ++ ws ≡ vs) × (key_of ws ≡ rest)
key_of-split first other us vs rest h k e =
    grind (arith, key_of-begins, AllFit-coded, append_cancel_left, key_of-append)

-- if a piece is neither empty nor `.`, its component may follow others
piece_fits : HoldsOfPieces (Fits false)
piece_fits p h d e = by_test (bytes_eq p parent_dir) (λ up. rw up tt)
    (λ up. rw up (record { some = d; no_slash = h; no_dot = e; no_up = up }))

-- if each component of vs may follow others, all of vs together may follow others
all_fit : (vs : List Value) → AllByRecursion (Fits false) vs → AllFit false vs
all_fit [] h = tt
all_fit (v ∷ vs) h = (h.0, all_fit vs h.1)

-- if v may follow other components, it may also be the first one
Fits-any : (first : Bool) (v : Value) → Fits false v → Fits first v
Fits-any first RootDir h = absurd (cc)
Fits-any first CurDir h = absurd (cc)
Fits-any first ParentDir h = tt
Fits-any first (Normal name) h = h

-- if vs may follow other components, vs may also be all components of a path
pub AllFit-any : (first : Bool) (vs : List Value) → AllFit false vs → AllFit first vs
AllFit-any first [] h = tt
AllFit-any first (v ∷ vs) h = (Fits-any first v h.0, h.1)

-- true if no component comes before, so that the next one is the first
abbrev pub starts : List Value → Bool
starts [] = true
starts (v ∷ vs) = false

-- if vs is not empty, the next component after us and vs is not the first
pub starts-more : (us vs : List Value) → 0 < length vs → starts (us ++ vs) ≡ false
starts-more [] [] l = absurd (omega arith)
starts-more [] (v ∷ vs) l = refl
starts-more (u ∷ us) vs l = refl

-- if us may be components of a path, and ws may come next, us and ws together may be components of
-- a path
pub AllFit-append : (first : Bool) (us ws : List Value) → AllFit first us
    → AllFit (starts us && first) ws → AllFit first (us ++ ws)
AllFit-append first [] ws h k = k
AllFit-append first (u ∷ us) ws h k =
    (h.0, AllFit-append false us ws h.1 (AllFit-any _ ws k))

-- if us and ws together may follow other components, so may ws
pub AllFit-later : (us ws : List Value) → AllFit false (us ++ ws) → AllFit false ws
AllFit-later [] ws h = h
AllFit-later (u ∷ us) ws h = AllFit-later us ws h.1

-- if us and ws together may be components of a path, ws may come after us
pub AllFit-after : (first : Bool) (us ws : List Value) → AllFit first (us ++ ws)
    → AllFit (starts us && first) ws
AllFit-after first [] ws h = h
AllFit-after first (u ∷ us) ws h = AllFit-later us ws h.1

-- the components of the pieces of any string s may follow other components
names-fit : (s : List ℕ) → AllFit false (names_of (slice_split is_slash s))
names-fit s =
    let after = values-hold_rooted (Fits false) piece_fits (slash ∷ s) refl in
    let same : names_of (slice_split is_slash s) ≡ after.0 =
    (let e = sym (values-rooted s) ∙ after.1 in cc) in
    subst (AllFit false) (sym same) (all_fit after.0 after.2)

-- if vs may follow other components, then vs, after a leading `.` if `dot` is true, may be all
-- components of a path
lead-fit : (dot : Bool) (vs : List Value) → AllFit false vs
    → AllFit true (cond dot (CurDir ∷ []) [] ++ vs)
lead-fit true vs h = (refl, h)
lead-fit false vs h = AllFit-any true vs h

-- the components of a path s may be all components of a path
pub values-fit : (s : List ℕ) → AllFit true (values s)
values-fit s = by_test (is_rooted s)
    (λ r.
    let after = values-hold_rooted (Fits false) piece_fits s r in
    subst (AllFit true) (sym after.1) (refl, all_fit after.0 after.2))
    (λ r.
    let ps = slice_split is_slash s in
    subst (AllFit true) (sym (values-rootless s ps r refl))
    (lead-fit (dot_first ps) (names_of ps) (names-fit s)))

-- if v may follow other components, its bytes have no slash and are a piece that is neither empty
-- nor `.`, and taken as a piece they are the component v
fits-piece : (v : Value) → Fits false v → NoSlash (value_bytes v)
    × (counts (value_bytes v) ≡ true) × (value_of_piece (value_bytes v) ≡ v)
fits-piece RootDir h = absurd (cc)
fits-piece CurDir h = absurd (cc)
fits-piece ParentDir h = ((refl, (refl, tt)), refl, refl)
fits-piece (Normal name) h = (h.no_slash, rw (h.some, h.no_dot) refl, rw h.no_up refl)

-- if vs may follow other components, the bytes of each of them have no slash
pieces-no_slash : (vs : List Value) → AllFit false vs → AllByRecursion NoSlash (map value_bytes vs)
pieces-no_slash [] h = tt
pieces-no_slash (v ∷ vs) h = ((fits-piece v h.0).0, pieces-no_slash vs h.1)

-- if vs may follow other components, the bytes of each component of vs are a piece that is neither
-- empty nor `.`
pieces-count : (vs : List Value) → AllFit false vs → AllCount (map value_bytes vs)
pieces-count [] h = tt
pieces-count (v ∷ vs) h = ((fits-piece v h.0).1, pieces-count vs h.1)

-- if vs may follow other components, the bytes of each component of vs, taken as a piece, are that
-- component again
pieces-values : (vs : List Value) → AllFit false vs → map value_of_piece (map value_bytes vs) ≡ vs
pieces-values [] h = refl
pieces-values (v ∷ vs) h = ap₂ (λ u us. u ∷ us) (fits-piece v h.0).2 (pieces-values vs h.1)

-- if vs may follow other components, the bytes of the components of vs, joined by slashes, are a
-- path with the components vs
inner-spelled : (vs : List Value) → AllFit false vs → values (slashed_bytes vs) ≡ vs
inner-spelled vs h =
    grind (arith, values-join_with_byte, pieces-no_slash, pieces-count, pieces-values)

-- if vs may be all components of a path, their canonical form has the components vs
pub values-spelled : (vs : List Value) → AllFit true vs → values (spelling_of vs) ≡ vs
values-spelled [] h = ap values spelling_of-nil ∙ values-nil
values-spelled (RootDir ∷ vs) h =
    ap values (spelling_of-root vs) ∙ values-rooted (slashed_bytes vs)
    ∙ ap (λ us. RootDir ∷ us)
    (names_of-join_with_byte (map value_bytes vs) (pieces-no_slash vs h.1) (pieces-count vs h.1)
    ∙ pieces-values vs h.1)
values-spelled (CurDir ∷ vs) h =
    ap values (spelling_of-dot vs)
    ∙ values-join_with_byte_dot (map value_bytes vs) (pieces-no_slash vs h.1) (pieces-count vs h.1)
    ∙ ap (λ us. CurDir ∷ us) (pieces-values vs h.1)
values-spelled (ParentDir ∷ vs) h =
    ap values (spelling_of-cons ParentDir vs (λ e. cc)) ∙ inner-spelled (ParentDir ∷ vs) (tt, h.1)
values-spelled (Normal name ∷ vs) h =
    ap values (spelling_of-cons (Normal name) vs (λ e. cc)) ∙ inner-spelled (Normal name ∷ vs) h

-- the inner components of s may follow other components
pub inner-fit : (s : List ℕ) → AllFit false (inner_values s)
inner-fit s = subst (AllFit false) (sym (inner_values-pieces s)) (names-fit s)

-- if vs may follow other components, vs joined by slashes has the inner components vs
pub inner_values-slashed : (vs : List Value) → AllFit false vs
    → inner_values (slashed_bytes vs) ≡ vs
inner_values-slashed vs h =
    inner_values-pieces (slashed_bytes vs)
    ∙ names_of-join_with_byte (map value_bytes vs) (pieces-no_slash vs h) (pieces-count vs h)
    ∙ pieces-values vs h

-- if v fits, it is the only component of some bytes
pub fits-component : (first : Bool) (v : Value) → Fits first v → IsComponent first v
fits-component true v h = (spelling_of (v ∷ []), values-spelled (v ∷ []) (h, tt))
fits-component false v h = (slashed_bytes (v ∷ []), inner_values-slashed (v ∷ []) (h, tt))

-- if v is the only component of some bytes, it fits
pub component-fits : (first : Bool) (v : Value) → IsComponent first v → Fits first v
component-fits true v h = (subst (AllFit true) h.1 (values-fit h.0)).0
component-fits false v h = (subst (AllFit false) h.1 (inner-fit h.0)).0

-- if v may follow other components, it may be a component after none or some
pub component-any : (first : Bool) (v : Value) → IsComponent false v → IsComponent first v
component-any first v h = fits-component first v (Fits-any first v (component-fits false v h))

-- The rests of two strings after the same components.
use Rattle.std.proofs.Common.{◌≡◌, ℕ, false, ◌+◌, ◌-◌, ◌<◌, List, [], ◌∷◌, ◌++◌, length, take}
use Rattle.std.proofs.Common.{drop, map, refl, sym, ap, ap₂, subst, ◌∙◌, arith, Ordering, Less}
use Rattle.std.proofs.Common.{append-nil, append_assoc, drop-drop, drop_at, length-append, take_all}
use Rattle.std.proofs.lemmas.List.{length-map, map-append}
use Rattle.unix_path.proofs.lemmas.order.CommonPrefixLemmas.{inner_values-nil, values_cmp-common}
use Rattle.unix_path.proofs.lemmas.order.ComparisonLemmas.{some_value}
use Rattle.unix_path.proofs.lemmas.filler.FillerLemmas.{parts-not_filler, values-not_filler}
use Rattle.unix_path.proofs.lemmas.rests.MiddleLemmas.{rest-middle}
use Rattle.unix_path.proofs.lemmas.parts.PlaceLemmas.{inner_parts-add, part_at, values-inner_parts}
use Rattle.unix_path.proofs.lemmas.parts.PlaceLemmas.{values-part_at}
use Rattle.unix_path.proofs.lemmas.lists.PrefixLemmas.{begins_tail}
use Rattle.unix_path.specs.CommonDir.{inner_values}
use Rattle.unix_path.specs.Order.{values_cmp}
use Rattle.unix_path.specs.Parts.{Part, Value, inner_parts, parts, values}
use Rattle.unix_path.specs.Prefixes.{IsPrefixOf}
use Rattle.unix_path.specs.Rest.{rest}
use Rattle.unix_path.specs.Scan.{is_filler, EndsInPart}
use Rattle.unix_path.specs.Slices.{IsTail}
use Rattle.unix_path.specs.Steps.{AreApart, SharesPrefix}
use Rattle.std.specs.Borrow.{Bor}
use Rattle.unix_path.proofs.lemmas.order.CommonPrefixLemmas.{values_cmp-equal_strings}
use Rattle.unix_path.proofs.lemmas.order.CommonPrefixLemmas.{common_prefix_len-whole}
use Rattle.std.proofs.lemmas.List.{nil_from_length}

-- the components, without their positions
abbrev values_of : List Part → List Value
values_of = map (λ p. p.value)

-- t is s without its leading filler, if s follows a slash
pub record AfterFiller (s t : List ℕ) : Type 0 where
  pub len : ℕ
  pub is : t ≡ drop len s
  pub filler : (at : ℕ) → inner_parts at s ≡ inner_parts (at + len) t
  pub not_filler : is_filler t 0 ≡ false

-- the result t of `after_filler` is its argument s without its leading filler
pub after_filler-is : (s t : Bor (List ℕ)) → IsTail t s
    → ((at : ℕ) → inner_parts at s.now ≡ inner_parts (at + (length s.now - length t.now)) t.now)
    → is_filler t.now 0 ≡ false → AfterFiller s.now t.now
after_filler-is s t tail filler not_filler = record {
  len = length s.now - length t.now;
  is = tail.bytes;
  filler = filler;
  not_filler = not_filler;
}

-- b has all values of a, and then more
pub record HasMore (a b : List ℕ) : Type 0 where
  pub more : List Value
  pub some : 0 < length more
  pub is : values b ≡ values a ++ more

-- if t is s without its leading filler (`AfterFiller`), the inner components of s are the
-- components of t
pub values-past : (s t : List ℕ) → AfterFiller s t → inner_values s ≡ values t
values-past s t h = grind (arith, values-inner_parts, values-not_filler)

-- if x is the rest of a after components that a and b share, the components of a are the shared
-- ones and then the inner components of x
values-first : {a b x y : List ℕ} (h : SharesPrefix a b x y)
    → values a ≡ values_of h.shared ++ inner_values x
unfolding values
values-first {x = x} h = grind (arith, map-append, values-inner_parts)

-- if x and y are the rests of a and b after the same components, the inner components of x and y
-- are in the same order as a and b
pub values_cmp-shared : {a b x y : List ℕ} → SharesPrefix a b x y
    → values_cmp (inner_values x) (inner_values y) ≡ values_cmp (values a) (values b)
values_cmp-shared {x = x} {y = y} h =
    sym (ap₂ values_cmp (values-first h) h.second
    ∙ values_cmp-common (values_of h.shared) (inner_values x) (inner_values y))

-- if x and y are the rests of a and b after the same components, so are t and u, which are x and y
-- without their leading filler
pub shares-past : {a b x y t u : List ℕ} → SharesPrefix a b x y → AfterFiller x t → AfterFiller y u
    → SharesPrefix a b t u
shares-past {a} {y = y} {t = t} {u = u} h past_x past_y =
    grind (
      arith,
      drop-drop past_x.len h.at a,
      values-past y u past_y,
      values-not_filler u past_y.not_filler,
    )

-- the empty string without its leading filler is empty
pub past-nil : AfterFiller [] []
past-nil = grind arith

-- if t and u are the rests of a and b after the same components, and begin with no filler, and x
-- and y are the rests of t and u after the same components, then x and y are such rests of a and b
pub shares-onward : {a b t u x y : List ℕ} → SharesPrefix a b t u → is_filler t 0 ≡ false
    → is_filler u 0 ≡ false → SharesPrefix t u x y → SharesPrefix a b x y
shares-onward {a} {t = t} {u = u} {x = x} {y = y} h busy_t busy_u g =
    let more = map (part_at h.at) g.shared in
    let moved : inner_parts (0 + h.at) t ≡ more ++ inner_parts (g.at + h.at) x =
    inner_parts-add 0 h.at t
    ∙ ap (map (part_at h.at)) (sym (parts-not_filler t (λ _. busy_t)) ∙ g.first)
    ∙ map-append (part_at h.at) g.shared (inner_parts g.at x)
    ∙ ap (λ ps. more ++ ps) (sym (inner_parts-add g.at h.at x)) in
    record {
      shared = h.shared ++ more;
      at = g.at + h.at;
      is = g.is ∙ ap (drop g.at) h.is ∙ drop-drop g.at h.at a
          ∙ ap (λ n. drop n a) {x = h.at + g.at} {y = g.at + h.at} (omega arith);
      first = h.first
          ∙ ap (λ n. h.shared ++ inner_parts n t) {x = h.at} {y = 0 + h.at} (omega arith)
          ∙ ap (λ ps. h.shared ++ ps) moved
          ∙ sym (append_assoc h.shared more (inner_parts (g.at + h.at) x));
      second = h.second
          ∙ ap (λ vs. values_of h.shared ++ vs) (sym (values-not_filler u busy_u) ∙ g.second
          ∙ ap (λ vs. vs ++ inner_values y) (sym (values-part_at h.at g.shared)))
          ∙ sym (append_assoc (values_of h.shared) (values_of more) (inner_values y))
          ∙ ap (λ vs. vs ++ inner_values y)
          (sym (map-append (λ (p : Part). p.value) h.shared more));
    }

-- if v followed by w is a prefix of v followed by x, then w is a prefix of x
pub begins_past : (v w x : List Value) → IsPrefixOf (v ++ w) (v ++ x) → IsPrefixOf w x
begins_past [] w x h = h
begins_past (y ∷ v) w x h = begins_past v w x (begins_tail y y (v ++ w) (v ++ x) h).1

-- if t and u are the rests of a and b after the same components, and begin with no filler, and t
-- doesn't start with u, and `order` is their order (`AreApart`), then a doesn't start with b, and
-- `order` is the order of a and b
pub apart-shared : {a b t u : List ℕ} {order : Ordering} → SharesPrefix a b t u
    → is_filler t 0 ≡ false → is_filler u 0 ≡ false → AreApart t u order → AreApart a b order
apart-shared {a} {b} {t} {u} h busy_t busy_u apart = record {
  order_is = apart.order_is
      ∙ ap₂ values_cmp (values-not_filler t busy_t) (values-not_filler u busy_u)
      ∙ values_cmp-shared h;
  no_prefix = λ begins. apart.no_prefix
      (subst (IsPrefixOf (values u)) (sym (values-not_filler t busy_t))
      (subst (λ vs. IsPrefixOf vs (inner_values t)) (sym (values-not_filler u busy_u))
      (begins_past (values_of h.shared) (inner_values u) (inner_values t)
      (subst (IsPrefixOf (values_of h.shared ++ inner_values u)) (values-first h)
      (subst (λ vs. IsPrefixOf vs (values a)) h.second begins)))));
}

-- if the rest of `base` after the components that s and `base` share is empty, these are all
-- components of `base`
shared_is : {s base rest_bytes : List ℕ} (h : SharesPrefix s base rest_bytes [])
    → values base ≡ values_of h.shared
shared_is h = grind (arith, inner_values-nil, append-nil)

-- if the rest of `base` after the components that s and `base` share is empty, s starts with `base`
pub begins-rest_bytes : {s base rest_bytes : List ℕ} → SharesPrefix s base rest_bytes []
    → IsPrefixOf (values base) (values s)
begins-rest_bytes {rest_bytes = rest_bytes} h = grind (arith, shared_is h, values-first h)

-- if the rest of `base` after the components that s and `base` share is empty, and the rest
-- `rest_bytes` of s has no leading and no trailing filler, then `rest_bytes` is s without as many
-- leading components as `base` has
pub rest-rest_bytes : {s base rest_bytes : List ℕ} (h : SharesPrefix s base rest_bytes [])
    → is_filler rest_bytes 0 ≡ false
    → EndsInPart rest_bytes → rest s (length (values base)) 0 ≡ rest_bytes
rest-rest_bytes {s} {base} {rest_bytes} h not_filler ends =
    let k = length (values base) in
    let count : length h.shared ≡ k =
    sym (ap length (shared_is h) ∙ length-map h.shared (λ p. p.value)) in
    let after = inner_parts h.at rest_bytes in
    let size : length (parts s) - (k + 0) ≡ length after =
    omega (arith, ap length h.first, length-append h.shared after, count) in
    rest-middle s k 0 (record {
      at = h.at;
      rest_bytes = rest_bytes;
      stands = ap (take (length rest_bytes)) (sym h.is)
          ∙ take_all (length rest_bytes) rest_bytes (omega arith);
      is = ap₂ (λ n ps. take n (drop k ps)) size h.first
          ∙ ap (take (length after)) (drop_at h.shared after k count)
          ∙ take_all (length after) after (omega arith)
          ∙ ap (λ n. inner_parts n rest_bytes) {x = h.at} {y = 0 + h.at} (omega arith)
          ∙ inner_parts-add 0 h.at rest_bytes
          ∙ ap (map (part_at h.at)) (sym (parts-not_filler rest_bytes (λ _. not_filler)));
      ends = ends;
    })

-- if the rest of a after the components that a and b share is empty, and the rest u of b is not
-- empty and begins with no filler, then b has all components of a and then more
pub more-rest_bytes : {a b u : List ℕ} → SharesPrefix a b [] u → is_filler u 0 ≡ false → 0
    < length u
    → HasMore a b
more-rest_bytes {a} {b} {u} h not_filler some =
    let shared : values_of h.shared ≡ values a =
    sym (values-first h ∙ ap (λ vs. values_of h.shared ++ vs) inner_values-nil
    ∙ append-nil (values_of h.shared)) in
    let value = some_value u some in
    grind (arith, values-not_filler)

-- if b has all components of a and then more, a comes before b, and doesn't start with b
pub more-apart : {a b : List ℕ} → HasMore a b → AreApart a b Less
more-apart {a} {b} h = record {
  order_is = before h.more h.some
      ∙ sym (ap₂ values_cmp (sym (append-nil (values a))) h.is
      ∙ values_cmp-common (values a) [] h.more);
  no_prefix = λ begins. absurd (omega (
    arith,
    h.some,
    ap length h.is,
    length-append (values a) h.more,
    ap length begins.1,
    length-append (values b) begins.0,
  ));
}
  where
    before : (vs : List Value) → 0 < length vs → Less ≡ values_cmp [] vs
    before [] some = absurd (omega arith)
    before (v ∷ vs) some = refl

-- the order of two strings that are equal, or whose rests are compared
pub ruleset comparisons = (
  values_cmp-equal_strings,
  common_prefix_len-whole,
  inner_values-nil,
  nil_from_length,
  values_cmp-shared,
)

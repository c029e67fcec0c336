-- Quoted text is read as it was listed.
use Rattle.std.proofs.Common.{◌≡◌, ◌<◌, ◌+◌, ◌/◌, ◌%◌, ◌==◌, ◌&&◌}
use Rattle.std.proofs.Common.{ℕ, Bool, true, false, List, [], ◌∷◌, ◌++◌, Option, Some, None, refl}
use Rattle.std.proofs.Common.{sym, ap, ap₂, ◌∙◌, subst, arith, length, append-nil, append_assoc}
use Rattle.std.proofs.Common.{if◌then◌else◌, length-append}
use Rattle.std.proofs.Common.{Bor, IfSome, option_map, suc}
use Rattle.std.specs.List.{flat_map, list_all}
use Rattle.std.specs.Str.{byte}
use Rattle.std.proofs.lemmas.Bool.{eqb-true}
use Rattle.std.proofs.lemmas.Bool.Decides.{nat_tests}
use Rattle.std.proofs.lemmas.List.{flat_map_more}
use Rattle.std.proofs.lemmas.List.Folds.{list_all-append}
use Rattle.std.proofs.lemmas.Option.{same_Some}
use Rattle.tar_listing.specs.Form.{closed, escaped, is_byte, is_octal, is_shown, letter_of}
use Rattle.tar_listing.specs.Reading.{CannotRead, IsPushed, after_quote, named, octal_value}
use Rattle.tar_listing.specs.Reading.{by_letter, escape_read, followed, octal_read, read_byte}

-- the digits of a byte
octal_back : (b : ℕ) → b < 256 → is_octal b ≡ true
    → octal_value (byte "0" + b / 64) (byte "0" + b / 8 % 8) (byte "0" + b % 8) ≡ Some b
octal_back b few e = grind (arith, nat_tests)

-- no digit is a letter
octal_no_letter : (b : ℕ) → b < 256 → named (byte "0" + b / 64) ≡ None
octal_no_letter b few = grind (arith, nat_tests)

-- the letter of a byte
letter_back : (b : ℕ) → is_byte b ≡ true → is_shown b ≡ false → is_octal b ≡ false
    → named (letter_of b) ≡ Some b
letter_back b e f g = grind (arith, nat_tests)

-- a byte that is listed as itself is no backslash
shown_plain : (b : ℕ) → is_shown b ≡ true → (b == byte "\\") ≡ false
shown_plain b e = grind (arith, nat_tests)

-- a byte is less than 256
few_bytes : (b : ℕ) → is_byte b ≡ true → b < 256
few_bytes b e = grind (arith, nat_tests)

-- a byte is read as it was listed
pub read_escaped : (b : ℕ) (more : List ℕ) → is_byte b ≡ true
    → read_byte (escaped b ++ more) ≡ Some (b, more)
unfolding read_byte
read_escaped b more is = by (is_shown b) (is_octal b) refl refl
  where
    few : b < 256
    few = few_bytes b is

    digits : List ℕ
    digits = (byte "0" + b / 64) ∷ (byte "0" + b / 8 % 8) ∷ (byte "0" + b % 8) ∷ []

    by : (s o : Bool) → is_shown b ≡ s → is_octal b ≡ o
        → read_byte ((if s then b ∷ [] else if o then byte "\\" ∷ digits
        else byte "\\" ∷ letter_of b ∷ []) ++ more) ≡ Some (b, more)
    by true o e f =
        ap (λ t. if t then escape_read more else if is_shown b then Some (b, more) else None)
        (shown_plain b e)
        ∙ ap (λ t. if t then Some (b, more) else None) e
    by false true e f =
        ap (λ o. by_letter o ((byte "0" + b / 8 % 8) ∷ (byte "0" + b % 8) ∷ more)
        (digits ++ more)) (octal_no_letter b few)
        ∙ ap (λ o. followed o more) (octal_back b few f)
    by false false e f =
        ap (λ o. by_letter o more (letter_of b ∷ more)) (letter_back b is e f)

-- what the byte of a letter is
pub record IsLettered (l b : ℕ) : Type 0 where
  pub shown : is_shown b ≡ false
  pub octal : is_octal b ≡ false
  pub letter : letter_of b ≡ l
  pub byte_is : is_byte b ≡ true

lettered : (l b : ℕ) → named l ≡ Some b → IsLettered l b
lettered l b e = record {
  shown = grind (arith, nat_tests);
  octal = grind (arith, nat_tests);
  letter = grind (arith, nat_tests);
  byte_is = grind (arith, nat_tests);
}

-- what the byte of digits is
pub record IsDigits (x y z b : ℕ) : Type 0 where
  pub shown : is_shown b ≡ false
  pub octal : is_octal b ≡ true
  pub high : byte "0" + b / 64 ≡ x
  pub middle : byte "0" + b / 8 % 8 ≡ y
  pub low : byte "0" + b % 8 ≡ z
  pub byte_is : is_byte b ≡ true

digits_of : (x y z b : ℕ) → octal_value x y z ≡ Some b → IsDigits x y z b
digits_of x y z b e = record {
  shown = grind (arith, nat_tests);
  octal = grind (arith, nat_tests);
  high = grind (arith, nat_tests);
  middle = grind (arith, nat_tests);
  low = grind (arith, nat_tests);
  byte_is = grind (arith, nat_tests);
}

-- the byte is listed at the start of s, and `more` follows
pub record IsFirst (s : List ℕ) (b : ℕ) (more : List ℕ) : Type 0 where
  pub is : s ≡ escaped b ++ more
  pub byte_is : is_byte b ≡ true

-- bytes as they are listed, by the tests
escaped_by : Bool → Bool → ℕ → List ℕ
escaped_by s o b =
    if s then b ∷ []
    else if o then byte "\\" ∷ (byte "0" + b / 64) ∷ (byte "0" + b / 8 % 8)
    ∷ (byte "0" + b % 8) ∷ []
    else byte "\\" ∷ letter_of b ∷ []

escaped_when : (b : ℕ) (s o : Bool) → is_shown b ≡ s → is_octal b ≡ o
    → escaped b ≡ escaped_by s o b
unfolding escaped_by
escaped_when b s o e f = ap₂ (λ s o. escaped_by s o b) e f

octal_first : (s more : List ℕ) (b : ℕ) → octal_read s ≡ Some (b, more)
    → IsFirst (byte "\\" ∷ s) b more
unfolding escaped_by
octal_first [] more b e = absurd (cc)
octal_first (x ∷ []) more b e = absurd (cc)
octal_first (x ∷ y ∷ []) more b e = absurd (cc)
octal_first (x ∷ y ∷ z ∷ t) more b e = by (octal_value x y z) refl e
  where
    by : (o : Option ℕ) → octal_value x y z ≡ o → followed o t ≡ Some (b, more)
        → IsFirst (byte "\\" ∷ x ∷ y ∷ z ∷ t) b more
    by None v f = absurd (cc)
    by (Some c) v f =
        let pair = same_Some (c, t) (b, more) f in
        let same : c ≡ b = ap (λ p. p.0) pair in
        let rest : t ≡ more = ap (λ p. p.1) pair in
        let d = digits_of x y z b (v ∙ ap Some same) in
        record {
          is = sym (ap (λ l. l ++ more) (escaped_when b false true d.shown d.octal)
              ∙ ap (λ x. byte "\\" ∷ x ∷ (byte "0" + b / 8 % 8) ∷ (byte "0" + b % 8) ∷ more) d.high
              ∙ ap (λ y. byte "\\" ∷ x ∷ y ∷ (byte "0" + b % 8) ∷ more) d.middle
              ∙ ap₂ (λ z t. byte "\\" ∷ x ∷ y ∷ z ∷ t) d.low (sym rest));
          byte_is = d.byte_is;
        }

escape_first : (s more : List ℕ) (b : ℕ) → escape_read s ≡ Some (b, more)
    → IsFirst (byte "\\" ∷ s) b more
unfolding escaped_by
escape_first [] more b e = absurd (cc)
escape_first (l ∷ t) more b e = by (named l) refl e
  where
    by : (o : Option ℕ) → named l ≡ o → by_letter o t (l ∷ t) ≡ Some (b, more)
        → IsFirst (byte "\\" ∷ l ∷ t) b more
    by None v f = octal_first (l ∷ t) more b f
    by (Some c) v f =
        let pair = same_Some (c, t) (b, more) f in
        let same : c ≡ b = ap (λ p. p.0) pair in
        let rest : t ≡ more = ap (λ p. p.1) pair in
        let d = lettered l b (v ∙ ap Some same) in
        record {
          is = sym (ap (λ l. l ++ more) (escaped_when b false false d.shown d.octal)
              ∙ ap₂ (λ l t. byte "\\" ∷ l ∷ t) d.letter (sym rest));
          byte_is = d.byte_is;
        }

shown_byte_is : (b : ℕ) → is_shown b ≡ true → is_byte b ≡ true
shown_byte_is b e = grind (arith, nat_tests)

-- a byte that is read was listed
pub read_first : (s more : List ℕ) (b : ℕ) → read_byte s ≡ Some (b, more) → IsFirst s b more
unfolding read_byte escaped_by
read_first [] more b e = absurd (cc)
read_first (c ∷ s) more b e = by (c == byte "\\") (is_shown c) refl refl e
  where
    by : (q t : Bool) → (c == byte "\\") ≡ q → is_shown c ≡ t
        → (if q then escape_read s else if t then Some (c, s) else None) ≡ Some (b, more)
        → IsFirst (c ∷ s) b more
    by true t is f g =
        subst (λ c. IsFirst (c ∷ s) b more) (sym (eqb-true c (byte "\\") is))
        (escape_first s more b g)
    by false true is f g =
        let pair = same_Some (c, s) (b, more) g in
        let same : c ≡ b = ap (λ p. p.0) pair in
        let rest : s ≡ more = ap (λ p. p.1) pair in
        let shown : is_shown b ≡ true = ap is_shown (sym same) ∙ f in
        record {
          is = ap₂ (λ c s. c ∷ s) same rest
              ∙ sym (ap (λ l. l ++ more) (escaped_when b true (is_octal b) shown refl));
          byte_is = shown_byte_is b shown;
        }
    by false false is f g = absurd (cc)

-- a byte is listed as one byte or more
escaped_some : (b : ℕ) → 0 < length (escaped b)
escaped_some b = by (is_shown b) (is_octal b)
  where
    by : (s o : Bool) → 0 < length (if s then b ∷ []
        else if o then byte "\\" ∷ (byte "0" + b / 64) ∷ (byte "0" + b / 8 % 8)
        ∷ (byte "0" + b % 8) ∷ [] else byte "\\" ∷ letter_of b ∷ [])
    by true o = omega arith
    by false true = omega arith
    by false false = omega arith

-- reading shortens
pub read_shorter : (s more : List ℕ) (b : ℕ) → Some (b, more) ≡ read_byte s
    → length more < length s
read_shorter s more b e =
    let f = read_first s more b (sym e) in
    let size = ap length f.is ∙ length-append (escaped b) more in
    let some = escaped_some b in
    omega arith

-- the text up to `rest` was appended
pub record HasPushed (text rest old new : List ℕ) : Type 0 where
  pub done : List ℕ
  pub bytes : list_all is_byte done ≡ true
  pub is : text ≡ flat_map escaped done ++ rest
  pub pushed : new ≡ old ++ done

pub push_first : (text old new : List ℕ) → new ≡ old → HasPushed text text old new
push_first text old new e = record {
  done = [];
  bytes = refl;
  is = refl;
  pushed = e ∙ sym (append-nil old);
}

both : (a b : Bool) → a ≡ true → b ≡ true → (a && b) ≡ true
both a b e f = ap₂ (λ a b. a && b) e f

pub push_more : (text rest after old mid new : List ℕ) (b : ℕ) → HasPushed text rest old mid
    → Some (b, after) ≡ read_byte rest → new ≡ mid ++ b ∷ [] → HasPushed text after old new
push_more text rest after old mid new b h e n =
    let f = read_first rest after b (sym e) in
    let more : (flat_map escaped h.done ++ escaped b) ≡ flat_map escaped (h.done ++ b ∷ []) =
    flat_map_more escaped [] h.done b in
    record {
      done = h.done ++ b ∷ [];
      bytes = list_all-append is_byte h.done (b ∷ [])
          ∙ both (list_all is_byte h.done) (list_all is_byte (b ∷ [])) h.bytes
          (both (is_byte b) true f.byte_is refl);
      is = h.is ∙ ap (λ r. flat_map escaped h.done ++ r) f.is
          ∙ sym (append_assoc (flat_map escaped h.done) (escaped b) after)
          ∙ ap (λ l. l ++ after) more;
      pushed = n ∙ ap (λ l. l ++ b ∷ []) h.pushed ∙ append_assoc old h.done (b ∷ []);
    }

-- a quote is first
quote_first : (s after : List ℕ) → after_quote s ≡ Some after → s ≡ byte "\"" ∷ after
quote_first [] after e = absurd (cc)
quote_first (b ∷ s) after e = by (b == byte "\"") refl e
  where
    by : (q : Bool) → (b == byte "\"") ≡ q → (if q then Some s else None) ≡ Some after
        → b ∷ s ≡ byte "\"" ∷ after
    by true is f = ap₂ (λ b s. b ∷ s) (eqb-true b (byte "\"") is) (same_Some s after f)
    by false is f = absurd (cc)

pub push_end : (text rest after old new : List ℕ) → HasPushed text rest old new
    → Some after ≡ after_quote rest → IsPushed closed text after old new
unfolding closed
push_end text rest after old new h e = record {
  text = h.done;
  bytes = h.bytes;
  is = h.is ∙ ap (λ r. flat_map escaped h.done ++ r) (quote_first rest after (sym e));
  pushed = h.pushed;
}

-- the first of some bytes
pub first_all : (p : ℕ → Bool) (b : ℕ) (bs : List ℕ) → list_all p (b ∷ bs) ≡ true
    → (p b ≡ true) × (list_all p bs ≡ true)
first_all p b bs e = by (p b) refl e
  where
    by : (q : Bool) → p b ≡ q → (q && list_all p bs) ≡ true
        → (p b ≡ true) × (list_all p bs ≡ true)
    by true is f = (is, f)
    by false is f = absurd (cc)

-- what is left of a text after its first bytes
pub record IsLeft (text done rest more : List ℕ) : Type 0 where
  pub tail : List ℕ
  pub text_is : text ≡ done ++ tail
  pub rest_is : rest ≡ closed tail more
  pub bytes : list_all is_byte tail ≡ true

-- no byte is listed as a quote
no_quote : (b : ℕ) (s more : List ℕ) → is_byte b ≡ true → escaped b ++ s ≡ byte "\"" ∷ more → ⊥
unfolding read_byte
no_quote b s more is e =
    let none : read_byte (byte "\"" ∷ more) ≡ None = refl in
    let some : read_byte (byte "\"" ∷ more) ≡ Some (b, s) =
    ap read_byte (sym e) ∙ read_escaped b s is in
    cc

-- no text
closed_nil : (more : List ℕ) → closed [] more ≡ byte "\"" ∷ more
unfolding closed
closed_nil more = refl

nils : (x y : List ℕ) → closed [] x ≡ closed [] y → x ≡ y
unfolding closed
nils x y e = cc

-- the first byte of a text
closed_cons : (b : ℕ) (bs more : List ℕ) → closed (b ∷ bs) more ≡ escaped b ++ closed bs more
unfolding closed
closed_cons b bs more = append_assoc (escaped b) (flat_map escaped bs) (byte "\"" ∷ more)

pub left_of : (done text rest more : List ℕ) → list_all is_byte done ≡ true
    → list_all is_byte text ≡ true → flat_map escaped done ++ rest ≡ closed text more
    → IsLeft text done rest more
left_of [] text rest more d t e =
    record { tail = text; text_is = refl; rest_is = e; bytes = t }
left_of (b ∷ done) [] rest more d t e =
    absurd (no_quote b (flat_map escaped done ++ rest) more (first_all is_byte b done d).0
    (sym (append_assoc (escaped b) (flat_map escaped done) rest) ∙ e ∙ closed_nil more))
left_of (b ∷ done) (c ∷ text) rest more d t e =
    let bs = first_all is_byte b done d in
    let cs = first_all is_byte c text t in
    let same : escaped b ++ (flat_map escaped done ++ rest) ≡ escaped c ++ closed text more =
    sym (append_assoc (escaped b) (flat_map escaped done) rest) ∙ e ∙ closed_cons c text more in
    let pair = same_Some (b, flat_map escaped done ++ rest) (c, closed text more)
    (sym (read_escaped b (flat_map escaped done ++ rest) bs.0) ∙ ap read_byte same
    ∙ read_escaped c (closed text more) cs.0) in
    let one : b ≡ c = ap (λ p. p.0) pair in
    let others : flat_map escaped done ++ rest ≡ closed text more = ap (λ p. p.1) pair in
    let l = left_of done text rest more bs.1 cs.1 others in
    record {
      tail = l.tail;
      text_is = ap₂ (λ b bs. b ∷ bs) (sym one) l.text_is;
      rest_is = l.rest_is;
      bytes = l.bytes;
    }

-- a text that ends begins with a quote or a byte
closed_read : (tail rest more : List ℕ) → list_all is_byte tail ≡ true → rest ≡ closed tail more
    → read_byte rest ≡ None → after_quote rest ≡ None → ⊥
unfolding closed
closed_read [] rest more t e r q =
    let some : after_quote rest ≡ Some more = ap after_quote e in cc
closed_read (b ∷ tail) rest more t e r q =
    let some : read_byte rest ≡ Some (b, closed tail more) =
    ap read_byte (e ∙ closed_cons b tail more)
    ∙ read_escaped b (closed tail more) (first_all is_byte b tail t).0 in
    cc

pub push_none : (text rest old new : List ℕ) → HasPushed text rest old new
    → read_byte rest ≡ None → after_quote rest ≡ None → CannotRead closed text
push_none text rest old new h r q more after t e =
    let l = left_of h.done more rest after h.bytes t (sym h.is ∙ e) in
    closed_read l.tail rest after l.bytes l.rest_is r q

-- one text is listed
pub same_text : (s t x y : List ℕ) → list_all is_byte s ≡ true → list_all is_byte t ≡ true
    → closed s x ≡ closed t y → (s ≡ t) × (x ≡ y)
same_text [] [] x y p q e = (refl, nils x y e)
same_text [] (c ∷ t) x y p q e =
    absurd (no_quote c (closed t y) x (first_all is_byte c t q).0
    (sym (closed_cons c t y) ∙ sym e ∙ closed_nil x))
same_text (b ∷ s) [] x y p q e =
    absurd (no_quote b (closed s x) y (first_all is_byte b s p).0
    (sym (closed_cons b s x) ∙ e ∙ closed_nil y))
same_text (b ∷ s) (c ∷ t) x y p q e =
    let bs = first_all is_byte b s p in
    let cs = first_all is_byte c t q in
    let pair = same_Some (b, closed s x) (c, closed t y)
    (sym (read_escaped b (closed s x) bs.0) ∙ ap read_byte (sym (closed_cons b s x) ∙ e
    ∙ closed_cons c t y) ∙ read_escaped c (closed t y) cs.0) in
    let one : b ≡ c = ap (λ p. p.0) pair in
    let others : closed s x ≡ closed t y = ap (λ p. p.1) pair in
    let l = same_text s t x y bs.1 cs.1 others in
    (ap₂ (λ b bs. b ∷ bs) one l.0, l.1)

-- what holds of the value in a `Some`
pub at_some : {A : Type 0} (P : A → Type 0) (o : Option A) (x : A) → o ≡ Some x → IfSome o P → P x
at_some P o x e h = subst (λ o. IfSome o P) e h

-- the same of what follows the quote, if there is one
pub pushed_at : (text rest old new : List ℕ) (o : Option (Bor (List ℕ)))
    → HasPushed text rest old new → option_map (λ r. r.now) o ≡ after_quote rest
    → IfSome o (λ after. IsPushed closed text after.now old new)
pushed_at text rest old new None h e = tt
pushed_at text rest old new (Some r) h e = push_end text rest r.now old new h e

pub pushed_none : (text rest old new : List ℕ) (o : Option (Bor (List ℕ)))
    → HasPushed text rest old new → read_byte rest ≡ None
    → option_map (λ r. r.now) o ≡ after_quote rest → o ≡ None → CannotRead closed text
pushed_none text rest old new o h r e is =
    push_none text rest old new h r (sym e ∙ ap (option_map (λ r. r.now)) is)

-- more than what follows the text is listed
pub longer : (text more : List ℕ) → length more < length (closed text more)
unfolding closed
longer text more =
    let size = length-append (flat_map escaped text) (byte "\"" ∷ more) in
    let one : length (byte "\"" ∷ more) ≡ suc (length more) = refl in
    omega arith

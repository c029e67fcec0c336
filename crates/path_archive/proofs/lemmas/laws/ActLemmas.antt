-- What holds of the file system throughout an extraction.
use Rattle.std.specs.Prelude.{◌≡◌, ◌⊎◌, ℕ, Bool, true, List, [], ◌∷◌, ◌++◌, ⊤, Contains}
use Rattle.std.proofs.Common.{sym, ap, ◌∙◌, subst, refl}
use Rattle.std.proofs.lemmas.List.{append_assoc, append-nil, append_cancel_left}
use Rattle.unix_path.specs.Parts.{Value}
use Rattle.unix_path.specs.Prefixes.{IsPrefixOf}
use Rattle.path_archive.specs.FileSystems.{Place, Node, FileSystem, Absent, Directory, File, Link}
use Rattle.path_archive.specs.FileSystems.{IsEmpty, SameOutside}
use Rattle.path_archive.specs.Entries.{EntryValue, SymlinkEntry, HardLinkEntry, components}
use Rattle.path_archive.specs.Rule.{Accepted, Closed}
use Rattle.path_archive.proofs.lemmas.laws.RuleLemmas.Uses.{path, target}
use Rattle.path_archive.specs.Extractions.{Puts, Acts, Extracts}
use Rattle.path_archive.specs.Extractions.Puts.{keeps, removes, makes_directory, makes_file}
use Rattle.path_archive.specs.Extractions.Puts.{makes_link, makes_hard_link}
use Rattle.path_archive.specs.Extractions.Extracts.{nothing, then}
use Rattle.path_archive.proofs.lemmas.laws.StraightLemmas.{HasOwnLinks, IsOwn}
use Rattle.path_archive.proofs.lemmas.laws.PlaceLemmas.{reaches_inside, front_place, used_place}
use Rattle.path_archive.proofs.lemmas.laws.PlaceLemmas.{others_pass}

-- p is outside of `top`
abbrev pub Outside : Place → Place → Type 0
Outside top p = IsPrefixOf top p → ⊥

-- what holds throughout: links below `top` are entries', files there have no name outside, and
-- nothing outside has changed
pub record Holds (entries : List EntryValue) (top : Place) (old fs : FileSystem) : Type 0 where
  pub links : HasOwnLinks entries top fs
  pub files : (x : List Value) (p : Place) (i : ℕ) → fs.at (top ++ x) ≡ File i → Outside top p
      → old.at p ≡ File i → ⊥
  pub same : SameOutside top old fs

-- what comes to stand at a place keeps this
pub record Fits (entries : List EntryValue) (top : Place) (old : FileSystem) (q : Place)
    (node : Node)
    : Type 0 where
  pub inside : (x : List Value) × (q ≡ top ++ x)
  pub links : (p : List Value) (t : List ℕ) → node ≡ Link t → q ≡ top ++ p → IsOwn entries p t
  pub files : (p : Place) (i : ℕ) → node ≡ File i → Outside top p → old.at p ≡ File i → ⊥

-- the node is a symbolic link
abbrev IsLink : Node → Type 0
IsLink (Link t) = ⊤
IsLink _ = ⊥

-- the node is a file
abbrev IsFile : Node → Type 0
IsFile (File i) = ⊤
IsFile _ = ⊥

-- a link's target
target_of : Node → List ℕ
target_of (Link t) = t
target_of _ = []

-- a node that is no link is none
no_link : {A : Type 0} (node : Node) (t : List ℕ) → node ≡ Link t → (IsLink node → ⊥) → A
no_link node t e h = absurd (h (subst IsLink (sym e) tt))

-- a node that is no file is none
no_file : {A : Type 0} (node : Node) (i : ℕ) → node ≡ File i → (IsFile node → ⊥) → A
no_file node i e h = absurd (h (subst IsFile (sym e) tt))

-- a file or nothing that an extractor keeps or puts at a place it comes to
pub puts_fits : (careless : Bool) (entries : List EntryValue) → Accepted entries
    → (careless ≡ true → Closed entries) → (top : Place) (old fs : FileSystem)
    → Holds entries top old fs → (e : EntryValue) (q : Place) (node : Node) → Contains entries e
    → Puts careless fs top e q node → Fits entries top old q node
unfolding target_of
puts_fits careless entries ok closed top old fs h e q node c (keeps r) =
    let x = reaches_inside careless entries ok closed top fs h.links e q c r in
    record {
      inside = x;
      links = λ p t is at. h.links p t (ap fs.at (sym at) ∙ is);
      files = λ p i is. h.files x.0 p i (ap fs.at (sym x.1) ∙ is);
    }
puts_fits careless entries ok closed top old fs h e q node c (removes r) = record {
  inside = reaches_inside careless entries ok closed top fs h.links e q c r;
  links = λ p t is at. no_link Absent t is (λ n. n);
  files = λ p i is. no_file Absent i is (λ n. n);
}
puts_fits careless entries ok closed top old fs h e q node c (makes_directory {m = m} r) = record {
  inside = reaches_inside careless entries ok closed top fs h.links e q c r;
  links = λ p t is at. no_link (Directory m) t is (λ n. n);
  files = λ p i is. no_file (Directory m) i is (λ n. n);
}
puts_fits careless entries ok closed top old fs h e q node c (makes_file {i = j} r new) = record {
  inside = reaches_inside careless entries ok closed top fs h.links e q c r;
  links = λ p t is at. no_link (File j) t is (λ n. n);
  files = λ p i is out stood. new p (h.same.places p out ∙ stood ∙ sym is);
}
puts_fits careless entries ok closed top old fs h e q node c
    (makes_link {p = p} {t = t} {q = r} front v p_is l) =
    let at : r ++ v ∷ [] ≡ top ++ components p =
    ap (λ x. x ++ v ∷ [])
    (front_place entries ok top fs h.links (SymlinkEntry p t) front [] v r c p_is l)
    ∙ append_assoc top front (v ∷ []) ∙ ap (λ x. top ++ x) (sym p_is) in
    record {
      inside = (components p, at);
      links = λ p' t' is at'. record {
        path = p;
        is = append_cancel_left top (components p) p' (sym at ∙ at');
        listed = subst (λ x. Contains entries (SymlinkEntry p x)) (ap target_of is) c;
      };
      files = λ p' i is. no_file (Link t) i is (λ n. n);
    }
puts_fits careless entries ok closed top old fs h e q node c
    (makes_hard_link {p = p} {t = t} {s = s} l m) =
    let e : EntryValue = HardLinkEntry p t in
    let from = used_place entries ok top fs h.links e (components t) s c target refl m in
    record {
      inside = (
        components p,
        used_place entries ok top fs h.links e
            (components p) q c path refl l,
      );
      links = λ p' t' is at.
          let own = h.links (components t) t' (ap fs.at (sym from) ∙ is) in
          absurd (others_pass entries ok e (components t) c target refl own.path t' own.listed
          ([], append-nil (components own.path) ∙ own.is));
      files = λ p' i is. h.files (components t) p' i (ap fs.at (sym from) ∙ is);
    }

-- each action keeps it
pub act_holds : (careless : Bool) (entries : List EntryValue) → Accepted entries
    → (careless ≡ true → Closed entries) → (top : Place) (old mid new : FileSystem)
    → Holds entries top old mid → Acts careless entries top mid new → Holds entries top old new
act_holds careless entries ok closed top old mid new h a =
    let fit = puts_fits careless entries ok closed top old mid h a.entry a.place
    (new.at a.place) a.listed a.puts in
    record {
      links = λ p t is. elim (a.places (top ++ p)) [
        | ◌⊎◌.inl at ↦ fit.links p t (ap new.at (sym at) ∙ is) (sym at)
        | ◌⊎◌.inr same ↦ h.links p t (sym same ∙ is)
      ];
      files = λ x p i is. elim (a.places (top ++ x)) [
        | ◌⊎◌.inl at ↦ fit.files p i (ap new.at (sym at) ∙ is)
        | ◌⊎◌.inr same ↦ h.files x p i (sym same ∙ is)
      ];
      same = record {
        places = λ p out. elim (a.places p) [
          | ◌⊎◌.inl at ↦ absurd (out (fit.inside.0, sym (at ∙ fit.inside.1)))
          | ◌⊎◌.inr same ↦ same ∙ h.same.places p out
        ];
        files = λ p i out stood.
            a.files i
            (λ is. h.files fit.inside.0 p i (ap mid.at (sym fit.inside.1) ∙ is) out stood)
            (λ is. fit.files p i is out stood)
            ∙ h.same.files p i out stood;
      };
    }

-- the whole of an extraction keeps it
pub extraction_holds : (careless : Bool) (entries : List EntryValue) → Accepted entries
    → (careless ≡ true → Closed entries) → (top : Place) (old new : FileSystem)
    → Holds entries top old old → Extracts careless entries top old new → Holds entries top old new
extraction_holds careless entries ok closed top old new h nothing = h
extraction_holds careless entries ok closed top old new h (then {mid = mid} x a) =
    act_holds careless entries ok closed top old mid new
    (extraction_holds careless entries ok closed top old mid h x) a

-- it holds at the beginning, below an empty directory
pub empty_holds : (entries : List EntryValue) (top : Place) (old : FileSystem) → IsEmpty top old
    → Holds entries top old old
empty_holds entries top old empty = record {
  links = links;
  files = files;
  same = record { places = λ p out. refl; files = λ p i out stood. refl };
}
  where
    links : HasOwnLinks entries top old
    links [] t is = no_link (Directory empty.directory.0) t
        (sym empty.directory.1 ∙ ap old.at (sym (append-nil top)) ∙ is) (λ n. n)
    links (v ∷ more) t is = no_link Absent t (sym (empty.below v more) ∙ is) (λ n. n)

    files : (x : List Value) (p : Place) (i : ℕ) → old.at (top ++ x) ≡ File i → Outside top p
        → old.at p ≡ File i → ⊥
    files [] p i is = no_file (Directory empty.directory.0) i
        (sym empty.directory.1 ∙ ap old.at (sym (append-nil top)) ∙ is) (λ n. n)
    files (v ∷ more) p i is = no_file Absent i (sym (empty.below v more) ∙ is) (λ n. n)

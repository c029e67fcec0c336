use Rattle.std.proofs.Common.{rules, Some, None, ◌≡◌, ◌<◌, map, length, subst, sym, ◌∙◌}
use Rattle.path_archive.specs.Marks.{Step}
use Rattle.path_archive.specs.Slots.{use_at}
use Rattle.path_archive.specs.declared.pass.Meeting.TheVariants.{Clashing, OnePath, Apart}
use Rattle.path_archive.proofs.lemmas.marks.StepLemmas.{step_apart, step_clash, step_first}
use Rattle.path_archive.proofs.lemmas.marks.StepLemmas.{step_one_path}
use Rattle.path_archive.proofs.pass.step.Goals as goal

pub returns-in_default : goal.returns-in_default
returns-in_default c =
    let is : c.args.leaf ≡ None = search rules in
    subst (λ l. Step (map (use_at c.args.records.now) c.args.slots.now) l c.args.i c.args.i
    c.next_leaf.result) (sym is)
    (step_first c.args.records.now c.args.slots.now c.args.i _ c.next_leaf.result c.requires.i_in
    (λ h. c.next_leaf.ensures.directory h ∙ is) c.next_leaf.ensures.leaf)

pub returns-in-Clashing : goal.returns-in-Clashing
returns-in-Clashing c =
    let v_in : c.in-Some.v < length c.args.slots.now = search rules in
    subst (λ l. Step (map (use_at c.args.records.now) c.args.slots.now) l c.args.i c.in-Some.v
    (Some c.in-Some.v)) (sym c.in-Some.is)
    (step_clash c.args.records.now c.args.slots.now c.in-Some.v c.args.i _ _ v_in c.requires.i_in
    (c.relate.ensures.clashing.0 c.in-Clashing.is))

pub returns-in-OnePath : goal.returns-in-OnePath
returns-in-OnePath c =
    let v_in : c.in-Some.v < length c.args.slots.now = search rules in
    let free : c.relate.result ≡ Clashing → ⊥ =
    λ h. (let e : OnePath ≡ Clashing = sym c.in-OnePath.is ∙ h in cc) in
    subst (λ l. Step (map (use_at c.args.records.now) c.args.slots.now) l c.args.i c.args.i
    (Some c.in-Some.v)) (sym c.in-Some.is)
    (step_one_path c.args.records.now c.args.slots.now c.in-Some.v c.args.i _ _ v_in
    c.requires.i_in (λ k. free (c.relate.ensures.clashing.1 k))
    (c.relate.ensures.one_path c.in-OnePath.is))

pub returns-in-Apart : goal.returns-in-Apart
returns-in-Apart c =
    let v_in : c.in-Some.v < length c.args.slots.now = search rules in
    let free : c.relate.result ≡ Clashing → ⊥ =
    λ h. (let e : Apart ≡ Clashing = sym c.in-Apart.is ∙ h in cc) in
    subst (λ l. Step (map (use_at c.args.records.now) c.args.slots.now) l c.args.i c.args.i
    c.next_leaf-in-Apart.result) (sym c.in-Some.is)
    (step_apart c.args.records.now c.args.slots.now c.in-Some.v c.args.i _ _ _
    c.next_leaf-in-Apart.result v_in c.requires.i_in
    (λ k. free (c.relate.ensures.clashing.1 k)) (c.relate.ensures.apart c.in-Apart.is)
    c.next_leaf-in-Apart.ensures.directory
    c.next_leaf-in-Apart.ensures.leaf)

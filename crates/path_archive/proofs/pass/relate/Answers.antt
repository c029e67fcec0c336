use Rattle.std.proofs.Common.{rules, ◌≡◌, true, false, sym, ◌∙◌, refl}
use Rattle.unix_path.specs.Parts.{values}
use Rattle.path_archive.specs.Rule.{is_directory}
use Rattle.path_archive.specs.Slots.{used_as_of}
use Rattle.path_archive.specs.declared.pass.Meeting.TheVariants.{Clashing, Apart}
use Rattle.path_archive.proofs.lemmas.marks.RelateLemmas.{Begins, begins_if, not_begins_if}
use Rattle.path_archive.proofs.lemmas.marks.RelateLemmas.{relate_other, relate_not_same}
use Rattle.path_archive.proofs.lemmas.marks.RelateLemmas.{relate_same, relate_ranks_clash}
use Rattle.path_archive.proofs.lemmas.marks.RelateLemmas.{relate_below, relate_directory}
use Rattle.path_archive.proofs.lemmas.marks.RelateLemmas.{relate_not_back}
use Rattle.path_archive.proofs.pass.relate.Goals as goal

pub returns-then-not-starts_with-clause-clashing : goal.returns-then-not-starts_with-clause-clashing
returns-then-not-starts_with-clause-clashing c =
    let test : c.starts_with.result ≡ false = search rules in
    let other : Begins c.args.records.now c.args.first.now c.args.second.now → ⊥ =
    not_begins_if c.args.records.now c.args.first.now c.args.second.now
    (values c.names-upper.result.bytes.now) (values c.names-lower.result.bytes.now)
    c.starts_with.result c.starts_with.ensures c.names-upper.ensures c.names-lower.ensures
    test in (
      λ is. absurd (let h : Apart ≡ Clashing = is in cc),
      λ h. absurd (relate_other c.args.records.now c.args.first.now c.args.second.now other h),
    )

pub returns-then-not-starts_with-clause-apart : goal.returns-then-not-starts_with-clause-apart
returns-then-not-starts_with-clause-apart c =
    let test : c.starts_with.result ≡ false = search rules in
    let other : Begins c.args.records.now c.args.first.now c.args.second.now → ⊥ =
    not_begins_if c.args.records.now c.args.first.now c.args.second.now
    (values c.names-upper.result.bytes.now) (values c.names-lower.result.bytes.now)
    c.starts_with.result c.starts_with.ensures c.names-upper.ensures c.names-lower.ensures
    test in
    λ is same. relate_not_same c.args.records.now c.args.first.now c.args.second.now other same

pub returns-then-starts_with-clause-clashing : goal.returns-then-starts_with-clause-clashing
returns-then-starts_with-clause-clashing c =
    let test : c.starts_with.result ≡ true = search rules in
    let begins : Begins c.args.records.now c.args.first.now c.args.second.now =
    begins_if c.args.records.now c.args.first.now c.args.second.now
    (values c.names-upper.result.bytes.now) (values c.names-lower.result.bytes.now)
    c.starts_with.result c.starts_with.ensures c.names-upper.ensures c.names-lower.ensures
    test in
    let back_test : c.starts_with-2.result ≡ true = search rules in
    let back : Begins c.args.records.now c.args.second.now c.args.first.now =
    begins_if c.args.records.now c.args.second.now c.args.first.now
    (values c.names-lower.result.bytes.now) (values c.names-upper.result.bytes.now)
    c.starts_with-2.result c.starts_with-2.ensures c.names-lower.ensures c.names-upper.ensures
    back_test in
    let ranks = relate_ranks_clash c.args.records.now c.args.first.now c.args.second.now begins back
    in (
      λ is. ranks.0 (c.relate_ranks.ensures.clashing.0 is),
      λ h. c.relate_ranks.ensures.clashing.1 (ranks.1 h),
    )

pub returns-then-starts_with-clause-one_path : goal.returns-then-starts_with-clause-one_path
returns-then-starts_with-clause-one_path c =
    let test : c.starts_with.result ≡ true = search rules in
    let begins : Begins c.args.records.now c.args.first.now c.args.second.now =
    begins_if c.args.records.now c.args.first.now c.args.second.now
    (values c.names-upper.result.bytes.now) (values c.names-lower.result.bytes.now)
    c.starts_with.result c.starts_with.ensures c.names-upper.ensures c.names-lower.ensures
    test in
    let back_test : c.starts_with-2.result ≡ true = search rules in
    let back : Begins c.args.records.now c.args.second.now c.args.first.now =
    begins_if c.args.records.now c.args.second.now c.args.first.now
    (values c.names-lower.result.bytes.now) (values c.names-upper.result.bytes.now)
    c.starts_with-2.result c.starts_with-2.ensures c.names-lower.ensures c.names-upper.ensures
    back_test in
    λ is. relate_same c.args.records.now c.args.first.now c.args.second.now begins back

pub returns-then-is_directory-clause-clashing : goal.returns-then-is_directory-clause-clashing
returns-then-is_directory-clause-clashing c =
    let directory : is_directory (used_as_of c.args.first.now.rank) ≡ true =
    sym c.is_directory.ensures ∙ c.if-is_directory.true in (
      λ is. absurd (let h : Apart ≡ Clashing = is in cc),
      λ h. absurd (relate_directory c.args.records.now c.args.first.now c.args.second.now directory
          h),
    )

pub returns-then-is_directory-clause-apart : goal.returns-then-is_directory-clause-apart
returns-then-is_directory-clause-apart c =
    let back_test : c.starts_with-2.result ≡ false = search rules in
    let not_back : Begins c.args.records.now c.args.second.now c.args.first.now → ⊥ =
    not_begins_if c.args.records.now c.args.second.now c.args.first.now
    (values c.names-lower.result.bytes.now) (values c.names-upper.result.bytes.now)
    c.starts_with-2.result c.starts_with-2.ensures c.names-lower.ensures c.names-upper.ensures
    back_test in
    λ is same. relate_not_back c.args.records.now c.args.first.now c.args.second.now not_back same

pub returns-else-is_directory-clause-clashing : goal.returns-else-is_directory-clause-clashing
returns-else-is_directory-clause-clashing c =
    let test : c.starts_with.result ≡ true = search rules in
    let begins : Begins c.args.records.now c.args.first.now c.args.second.now =
    begins_if c.args.records.now c.args.first.now c.args.second.now
    (values c.names-upper.result.bytes.now) (values c.names-lower.result.bytes.now)
    c.starts_with.result c.starts_with.ensures c.names-upper.ensures c.names-lower.ensures
    test in
    let back_test : c.starts_with-2.result ≡ false = search rules in
    let not_back : Begins c.args.records.now c.args.second.now c.args.first.now → ⊥ =
    not_begins_if c.args.records.now c.args.second.now c.args.first.now
    (values c.names-lower.result.bytes.now) (values c.names-upper.result.bytes.now)
    c.starts_with-2.result c.starts_with-2.ensures c.names-lower.ensures c.names-upper.ensures
    back_test in
    let leaf : is_directory (used_as_of c.args.first.now.rank) ≡ false =
    sym c.is_directory.ensures ∙ c.if-is_directory.false in (
      λ is. relate_below c.args.records.now c.args.first.now c.args.second.now begins not_back leaf,
      λ h. refl,
    )

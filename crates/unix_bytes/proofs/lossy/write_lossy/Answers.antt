use Rattle.std.proofs.Common.{◌≡◌, ◌++◌, true, refl, sym, ap, ◌∙◌, append_assoc, arith}
use Rattle.std.proofs.Common.{ℕ, List, length, length-drop, take}
use Rattle.std.proofs.lemmas.Bool.{eqb-true}
use Rattle.std.proofs.lemmas.List.{take_rest}
use Rattle.unix_bytes.specs.Lossy.{lossy_of}
use Rattle.unix_bytes.specs.Chunks.{replacement_for}
use Rattle.unix_bytes.proofs.lemmas.prefixes.PushLemmas.{rest_is_shorter, lossy_of-split}
use Rattle.unix_bytes.proofs.lemmas.prefixes.PrinterLemmas.{pushes_buffer, buffer_is_utf8}
use Rattle.unix_bytes.proofs.lemmas.prefixes.PrinterLemmas.{writes_last, writes_whole}
use Rattle.std.proofs.Output.{has_written_append, has_written_of_eq}
use Rattle.std.proofs.Output.{has_written_styled_append, has_written_styled_of_eq}
use Rattle.unix_bytes.proofs.lossy.write_lossy.Goals as goal

pub write_text-requires : goal.write_text-requires
write_text-requires g c = buffer_is_utf8 _ _ _ c.show_first-read.ensures.lossy

pub loop-pending-smaller : goal.loop-pending-smaller
loop-pending-smaller g c =
    let pending = c.loop-pending.pending.now in
    let read = c.show_first-read.result.0 in
    let some = sym c.is_empty-in-loop-pending.ensures ∙ c.if-is_empty.false in
    let less = rest_is_shorter some c.split_text.ensures in
    omega (arith, less, ap length (take_rest pending read), length-drop read pending)

pub loop-pending-preserved : goal.loop-pending-preserved
loop-pending-preserved g c =
    let took = g.W.Write.write_str_gives in
    let pending = c.loop-pending.pending.now in
    let rest = c.split_text.result.2.now in
    let chunk = c.split_text.result.0.now ++ replacement_for c.split_text.result.1.now in
    let buffer = take c.show_first-read.result.1 c.show_first-read.new.out in
    let whole : (bs : List ℕ) → bs ++ lossy_of pending ≡ lossy_of c.args.source.now
    → ((bs ++ buffer) ++ chunk) ++ lossy_of rest ≡ lossy_of c.args.source.now = λ bs e.
    append_assoc (bs ++ buffer) chunk (lossy_of rest)
    ∙ ap (λ t. (bs ++ buffer) ++ t) (lossy_of-split c.split_text.ensures)
    ∙ pushes_buffer bs buffer pending _ _ (take_rest pending c.show_first-read.result.0)
    c.show_first-read.ensures.lossy ∙ e in
    record {
      plain = λ p.
          let (bs, h, e) = c.loop-pending.invariant.plain p in
          let k = has_written_append took _ bs _ buffer _ h
          (c.in_ok-write_text.ensures.writes h.plain (refl {a = true})) in (
            (bs ++ buffer) ++ chunk,
            has_written_append took _ (bs ++ buffer) _ chunk _ k
                (c.in_ok-write_chunk.ensures.writes k.plain (refl {a = true})),
            whole bs e,
          );
      styled = λ p.
          let (bs, h, e) = c.loop-pending.invariant.styled p in
          let k = has_written_styled_append took _ bs _ buffer _ h
          (c.in_ok-write_text.ensures.styled h.flush (refl {a = true})) in (
            (bs ++ buffer) ++ chunk,
            has_written_styled_append took _ (bs ++ buffer) _ chunk _ k
                (c.in_ok-write_chunk.ensures.styled k.flush (refl {a = true})),
            whole bs e,
          );
    }

pub returns-then-is_empty-clause-writes : goal.returns-then-is_empty-clause-writes
returns-then-is_empty-clause-writes g c = λ p q.
    let took = g.W.Write.write_str_gives in
    let pending = c.loop-pending.pending.now in
    let none = eqb-true _ 0 (sym c.is_empty-in-loop-pending.ensures ∙ c.if-is_empty.true) in
    let (bs, h, e) = c.loop-pending.invariant.plain p in
    has_written_of_eq took _ _ _ _
    (writes_last bs _ pending _ _ _ (take_rest pending c.show_first-read.result.0) none
    c.show_first-read.ensures.lossy e)
    (has_written_append took _ bs _ _ _ h
    (c.in_ok-write_text.ensures.writes h.plain (refl {a = true})))

pub returns-then-is_empty-clause-styled : goal.returns-then-is_empty-clause-styled
returns-then-is_empty-clause-styled g c = λ p q.
    let took = g.W.Write.write_str_gives in
    let pending = c.loop-pending.pending.now in
    let none = eqb-true _ 0 (sym c.is_empty-in-loop-pending.ensures ∙ c.if-is_empty.true) in
    let (bs, h, e) = c.loop-pending.invariant.styled p in
    has_written_styled_of_eq took _ _ _ _
    (writes_last bs _ pending _ _ _ (take_rest pending c.show_first-read.result.0) none
    c.show_first-read.ensures.lossy e)
    (has_written_styled_append took _ bs _ _ _ h
    (c.in_ok-write_text.ensures.styled h.flush (refl {a = true})))

pub returns-clause-writes : goal.returns-clause-writes
returns-clause-writes g c = λ p q.
    let none = eqb-true _ 0 (sym c.is_empty.ensures ∙ c.loop-pending-test.false) in
    let (bs, h, e) = c.loop-pending.invariant.plain p in
    has_written_of_eq g.W.Write.write_str_gives _ _ _ _
    (writes_whole bs c.loop-pending.pending.now _ none e) h

pub returns-clause-styled : goal.returns-clause-styled
returns-clause-styled g c = λ p q.
    let none = eqb-true _ 0 (sym c.is_empty.ensures ∙ c.loop-pending-test.false) in
    let (bs, h, e) = c.loop-pending.invariant.styled p in
    has_written_styled_of_eq g.W.Write.write_str_gives _ _ _ _
    (writes_whole bs c.loop-pending.pending.now _ none e) h

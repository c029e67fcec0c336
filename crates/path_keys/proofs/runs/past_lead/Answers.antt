use Rattle.std.proofs.Common.{refl, sym, subst, arith}
use Rattle.std.proofs.lemmas.List.{take_rest}
use Rattle.unix_path.specs.Parts.{RootDir, CurDir}
use Rattle.path_keys.specs.declared.runs.Lead.TheVariants.{Root, Dot}
use Rattle.path_keys.proofs.lemmas.spelling.RunTextLemmas.{BeginsLead, dot_values, lead_inner}
use Rattle.path_keys.proofs.lemmas.spelling.RunTextLemmas.{lead_told, root_values}
use Rattle.path_keys.proofs.lemmas.spelling.StartLemmas.{absent_lead, mark_lead, no_lead_inner}
use Rattle.path_keys.proofs.runs.past_lead.Goals as goal

pub returns-then-key-lt2-clause-lead : goal.returns-then-key-lt2-clause-lead
returns-then-key-lt2-clause-lead c = absent_lead c.args.key.now

pub returns-then-key-lt2-clause-inner : goal.returns-then-key-lt2-clause-inner
returns-then-key-lt2-clause-inner c = no_lead_inner c.args.key.now (grind arith) (grind arith)

pub returns-then-key-ne0-clause-lead : goal.returns-then-key-ne0-clause-lead
returns-then-key-ne0-clause-lead c = absent_lead c.args.key.now

pub returns-then-key-ne0-clause-inner : goal.returns-then-key-ne0-clause-inner
returns-then-key-ne0-clause-inner c = no_lead_inner c.args.key.now (grind arith) (grind arith)

pub returns-then-key-eq-ROOT_MARK-clause-lead : goal.returns-then-key-eq-ROOT_MARK-clause-lead
returns-then-key-eq-ROOT_MARK-clause-lead c =
    let s = c.args.key.now in
    lead_told (subst (λ r. BeginsLead s r Root) (sym (take_rest s 2))
    (mark_lead RootDir Root 1 refl refl refl root_values s c.if-key-lt2.false c.if-key-ne0.false
    c.if-key-eq-ROOT_MARK.true))

pub returns-then-key-eq-ROOT_MARK-clause-inner : goal.returns-then-key-eq-ROOT_MARK-clause-inner
returns-then-key-eq-ROOT_MARK-clause-inner c =
    let s = c.args.key.now in
    lead_inner (subst (λ r. BeginsLead s r Root) (sym (take_rest s 2))
    (mark_lead RootDir Root 1 refl refl refl root_values s c.if-key-lt2.false c.if-key-ne0.false
    c.if-key-eq-ROOT_MARK.true))

pub returns-then-key-eq-CUR_DIR_MARK-clause-lead : goal.returns-then-key-eq-CUR_DIR_MARK-clause-lead
returns-then-key-eq-CUR_DIR_MARK-clause-lead c =
    let s = c.args.key.now in
    lead_told (subst (λ r. BeginsLead s r Dot) (sym (take_rest s 2))
    (mark_lead CurDir Dot 2 refl refl refl dot_values s c.if-key-lt2.false c.if-key-ne0.false
    c.if-key-eq-CUR_DIR_MARK.true))

pub returns-then-key-eq-CUR_DIR_MARK-clause-inner :
    goal.returns-then-key-eq-CUR_DIR_MARK-clause-inner
returns-then-key-eq-CUR_DIR_MARK-clause-inner c =
    let s = c.args.key.now in
    lead_inner (subst (λ r. BeginsLead s r Dot) (sym (take_rest s 2))
    (mark_lead CurDir Dot 2 refl refl refl dot_values s c.if-key-lt2.false c.if-key-ne0.false
    c.if-key-eq-CUR_DIR_MARK.true))

pub returns-clause-lead : goal.returns-clause-lead
returns-clause-lead c = absent_lead c.args.key.now

pub returns-clause-inner : goal.returns-clause-inner
returns-clause-inner c = no_lead_inner c.args.key.now (grind arith) (grind arith)

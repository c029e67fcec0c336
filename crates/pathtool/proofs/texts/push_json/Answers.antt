use Rattle.std.proofs.Common.{rules, sym}
use Rattle.pathtool.proofs.lemmas.answers.AddLemmas.{adds}
use Rattle.pathtool.proofs.lemmas.answers.QuoteLemmas.{json_of-other}
use Rattle.pathtool.proofs.texts.push_json.Goals as goal

pub returns-in-Err-NotUtf8 : goal.returns-in-Err-NotUtf8
returns-in-Err-NotUtf8 c =
    adds c.push_not_utf8.result _ _
    (sym (json_of-other c.args.path.bytes.now (c.in-Err-NotUtf8.ensures.not_utf8.0 (search rules))))
    c.push_not_utf8.ensures

use Rattle.std.proofs.Common.{arith}
use Rattle.unix_path.proofs.lemmas.order.EightLemmas.{le_bytes-last}
use Rattle.unix_path.proofs.cursor.hash.padded_tail.Goals as goal

pub returns-in-empty : goal.returns-in-empty
returns-in-empty c =
    le_bytes-last c.args.rest.now 0 _ (omega arith) c.type_inv.rest c.from_le_bytes.ensures

pub returns-in-len1 : goal.returns-in-len1
returns-in-len1 c = le_bytes-last c.args.rest.now 1 _ (omega arith) c.type_inv.rest
    c.from_le_bytes-in-len1.ensures

pub returns-in-len2 : goal.returns-in-len2
returns-in-len2 c = le_bytes-last c.args.rest.now 2 _ (omega arith) c.type_inv.rest
    c.from_le_bytes-in-len2.ensures

pub returns-in-len3 : goal.returns-in-len3
returns-in-len3 c = le_bytes-last c.args.rest.now 3 _ (omega arith) c.type_inv.rest
    c.from_le_bytes-in-len3.ensures

pub returns-in-len4 : goal.returns-in-len4
returns-in-len4 c = le_bytes-last c.args.rest.now 4 _ (omega arith) c.type_inv.rest
    c.from_le_bytes-in-len4.ensures

pub returns-in-len5 : goal.returns-in-len5
returns-in-len5 c = le_bytes-last c.args.rest.now 5 _ (omega arith) c.type_inv.rest
    c.from_le_bytes-in-len5.ensures

pub returns-in-len6 : goal.returns-in-len6
returns-in-len6 c = le_bytes-last c.args.rest.now 6 _ (omega arith) c.type_inv.rest
    c.from_le_bytes-in-len6.ensures

pub returns-in-len7 : goal.returns-in-len7
returns-in-len7 c = le_bytes-last c.args.rest.now 7 _ (omega arith) c.type_inv.rest
    c.from_le_bytes-in-len7.ensures

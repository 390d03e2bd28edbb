use Rattle.std.proofs.Common.{◌≡◌, ◌+◌, ◌*◌, [], ◌∷◌, ◌++◌, length, drop, vec_items, sym, subst, rules, arith}
use Rattle.script.specs.Hosts.{ArePairs}
use Rattle.script.proofs.Hosts.{pair_read, pair_gone, pair_within, pairs_more}
use Rattle.script.proofs.host.settings_in.Goals as goal

pub loop-pair-preserved : goal.loop-pair-preserved
loop-pair-preserved c =
    let words = c.args.words.now in
    let pair = c.in-Some.pair.now in
    let behind = c.next.new.self.rest.now in
    let ss = vec_items c.loop-pair.settings in
    let rest : drop (2 * length ss) words ≡ pair ++ behind = search rules in
    let two : length pair ≡ 2 = omega arith in
    let more : length (vec_items c.push.new.self) ≡ length ss + 1 = search rules in
    let items : vec_items c.push.new.self ≡ ss ++ record { key = c.in_ok-key_in.field-0; value = c.in_ok-value_in.field-0 } ∷ [] = search rules in
    let read = pair_read words pair behind (length ss) c.in_ok-key_in.field-0 c.in_ok-value_in.field-0 rest two (search rules) (search rules) in (
      search rules,
      pair_gone words pair behind (length ss) _ rest two more,
      pair_within words pair behind (length ss) _ rest two more,
      subst (ArePairs words) (sym items) (pairs_more words ss _ c.loop-pair.invariant.3 read),
    )

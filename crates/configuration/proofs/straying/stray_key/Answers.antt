use Rattle.std.proofs.Common.{◌≡◌, true, false, ◌∙◌, sym}
use Rattle.catalogue.specs.Owned.{entries_of}
use Rattle.reference.specs.Requests.{is_known}
use Rattle.layer.proofs.Walking.{above_shorter}
use Rattle.configuration.proofs.Strays.{stray_start, stray_here, stray_past, stray_none}
use Rattle.configuration.proofs.straying.stray_key.Goals as goal

pub loop-key-init : goal.loop-key-init
loop-key-init g c =
    let layer = g.met.L.Layer in stray_start (entries_of c.args.catalogue.now) _ (layer.ascends c.args.layer.now) (layer.sound c.args.layer.now)

pub loop-key-smaller : goal.loop-key-smaller
loop-key-smaller g c =
    let layer = g.met.L.Layer in
    above_shorter _ _ _ (layer.ascends c.args.layer.now) (layer.sound c.args.layer.now) c.in-Some.ensures

pub loop-key-preserved : goal.loop-key-preserved
loop-key-preserved g c =
    let layer = g.met.L.Layer in
    let known : true ≡ is_known (entries_of c.args.catalogue.now) c.in-Some.key = cc in
    stray_past _ _ _ _ (layer.ascends c.args.layer.now) (layer.sound c.args.layer.now) c.in-Some.ensures known ∙ c.loop-key.invariant

pub returns-then-not-is_known : goal.returns-then-not-is_known
returns-then-not-is_known g c =
    let layer = g.met.L.Layer in
    let stray : false ≡ is_known (entries_of c.args.catalogue.now) c.in-Some.key = cc in
    sym (stray_here _ _ _ _ (layer.ascends c.args.layer.now) (layer.sound c.args.layer.now) c.in-Some.ensures stray) ∙ c.loop-key.invariant

pub returns : goal.returns
returns g c = sym (stray_none _ _ (g.L.Layer.settings c.args.layer.now) c.in_default.ensures) ∙ c.loop-key.invariant

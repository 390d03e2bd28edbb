-- What a watch sees of a run: the receiver before the first call, and after each.
use Rattle.std.specs.Prelude.{◌≡◌, List, [], ◌∷◌}
use Rattle.rule.specs.Rules.{Finding}
use Rattle.reference.specs.Requests.{Catalogue}
use Rattle.reference.specs.Events.{Asking}
use Rattle.reference.specs.Parts.{Parts}
use Rattle.reference.specs.Receiver.{State, step, made}

-- Of a watch that has seen a state: it sees what each call leaves, in their order, and so becomes the last one. The relation says what a watch may
-- become by seeing a state.
unfoldable pub SeesAfter : {W : Type 0} → (W → State → W → Type 0) → Catalogue → Finding → State → List Asking → W → W → Type 0
SeesAfter saw cat rule s [] w last = w ≡ last
SeesAfter {W} saw cat rule s (c ∷ cs) w last =
    let left : State = (step cat rule s c).state in (next : W) × saw w left next × SeesAfter saw cat rule left cs next last

-- and it sees the state before the first call
abbrev pub SeesFrom : {W : Type 0} → (W → State → W → Type 0) → Catalogue → Finding → State → List Asking → W → W → Type 0
SeesFrom {W} saw cat rule s cs w last = (next : W) × saw w s next × SeesAfter saw cat rule s cs next last

-- a whole run of the reference receiver
abbrev pub SeesRun : {W : Type 0} → (W → State → W → Type 0) → Parts → List Asking → W → W → Type 0
SeesRun saw p cs w last = SeesFrom saw p.catalogue p.rule (made p) cs w last

-- An engine keeps the promises if it keeps the three demands. Ours does.
use Rattle.promises.specs.Engine.{Engine, ours}
use Rattle.promises.specs.Demand1.{Demand1}
use Rattle.promises.specs.Demand2.{Demand2}
use Rattle.promises.specs.Demand3.{Demand3}
use Rattle.promises.specs.Kept.Demand1Kept.{demand1}
use Rattle.promises.specs.Kept.Demand2Kept.{demand2}
use Rattle.promises.specs.Kept.Demand3Kept.{demand3}
use Rattle.table.specs.declared.Form.{Form}

pub record Keeps (form : Form) (E : Engine) : Type 0 where
  pub first : Demand1 form E
  pub second : Demand2 form E
  pub third : Demand3 form E

pub ours_keeps : (form : Form) → Keeps form (ours form)
ours_keeps form = record { first = demand1 form; second = demand2 form; third = demand3 form }

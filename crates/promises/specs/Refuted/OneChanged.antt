-- An engine with one call changed: what a wrong engine is wrong in stands alone, and the rest is ours. A call that is
-- wrong in one stored form is ours in the other.
use Rattle.std.specs.Prelude.{List, ℕ}
use Rattle.text.specs.Text.{Answer}
use Rattle.calls.specs.SetUp.{Given}
use Rattle.calls.specs.Run.{Ran}
use Rattle.calls.specs.Read.{Read}
use Rattle.calls.specs.Write.{Write}
use Rattle.calls.specs.Move.{Move}
use Rattle.promises.specs.Engine.{Engine, ours}
use Rattle.groups.specs.declared.Stored.{Stored}
use Rattle.groups.specs.declared.Stored.TheVariants.{Text, Groups}
use Rattle.table.specs.declared.Form.TheVariants.{Four}

-- ours on a table with four words a cell
abbrev pub right : Engine
right = ours Four

abbrev pub with_set_up : (List ℕ → ℕ → ℕ → Given) → Engine → Engine
with_set_up f E = record {
  set_up = f;
  run = E.run;
  read = E.read;
  write = E.write;
  move = E.move;
  check = E.check;
  rest = E.rest;
}

abbrev pub with_run : (List ℕ → List ℕ → List ℕ → List ℕ → Ran) → Engine → Engine
with_run f E = record {
  set_up = E.set_up;
  run = f;
  read = E.read;
  write = E.write;
  move = E.move;
  check = E.check;
  rest = E.rest;
}

abbrev pub with_read : (Stored → List ℕ → List ℕ → ℕ → List ℕ → Read) → Engine → Engine
with_read f E = record {
  set_up = E.set_up;
  run = E.run;
  read = f;
  write = E.write;
  move = E.move;
  check = E.check;
  rest = E.rest;
}

abbrev pub with_write : (Stored → List ℕ → List ℕ → ℕ → List ℕ → Write) → Engine → Engine
with_write f E = record {
  set_up = E.set_up;
  run = E.run;
  read = E.read;
  write = f;
  move = E.move;
  check = E.check;
  rest = E.rest;
}

abbrev pub with_move : (Stored → List ℕ → List ℕ → Move) → Engine → Engine
with_move f E = record {
  set_up = E.set_up;
  run = E.run;
  read = E.read;
  write = E.write;
  move = f;
  check = E.check;
  rest = E.rest;
}

abbrev pub with_check : (List ℕ → Answer) → Engine → Engine
with_check f E = record {
  set_up = E.set_up;
  run = E.run;
  read = E.read;
  write = E.write;
  move = E.move;
  check = f;
  rest = E.rest;
}

abbrev pub with_rest : (List ℕ → ℕ) → Engine → Engine
with_rest f E = record {
  set_up = E.set_up;
  run = E.run;
  read = E.read;
  write = E.write;
  move = E.move;
  check = E.check;
  rest = f;
}

-- in the form k alone
abbrev pub in_form : Stored → {A : Type 0} → (Stored → A) → A → Stored → A
in_form Text f g Text = g
in_form Text f g Groups = f Groups
in_form Groups f g Text = f Text
in_form Groups f g Groups = g

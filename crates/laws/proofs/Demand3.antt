-- Demand 3, whole: what a passed mean is worth, for every chain that is carried, and so for every accepted file, whatever steps are struck
-- while one is left in each column, and whoever proposed the mean.
use Rattle.std.specs.Prelude.{ℕ, ◌*◌, ◌≤◌, ◌<◌, ◌≡◌, true, pos, nat_abs}
use Rattle.std.proofs.Common.{sym, ◌∙◌, subst, le_trans, arith}
use Rattle.definitions.specs.Layout.{closeness, parts}
use Rattle.definitions.specs.Refusals.{year_limit}
use Rattle.definitions.specs.Loss.{Vector}
use Rattle.definitions.specs.Observations.{Chain}
use Rattle.definitions.specs.Matrix.{own, figures_from, passes}
use Rattle.definitions.specs.Strikes.{chain_left}
use Rattle.definitions.specs.Guarantee.{Guarantee, RoundingPasses, Demand3, ZeroResidue}
use Rattle.laws.specs.Chains.{Carried}
use Rattle.laws.proofs.Chains.{carried_owned}
use Rattle.laws.proofs.StruckFiles.{struck_chain}
use Rattle.laws.proofs.FormGuarantee as Form
use Rattle.laws.proofs.Judged.{SmallResidues, small_of_passes, passes_of_small}
use Rattle.laws.proofs.LossForm.{loss_is_form}
use Rattle.laws.proofs.PrecisionMatrix.{residue_is_form}
use Rattle.laws.specs.PrecisionMatrix.{loss_form}
use Rattle.laws.proofs.Quadratic.{form_residue}
use Rattle.laws.proofs.Rounding.{rounding_passes}

module _ (c : Chain) (e : ℕ) (μ : Vector) where
  small_form : SmallResidues c e μ → (k : ℕ) → k < parts c.last → nat_abs (form_residue (loss_form c) (pos 1) μ k) ≤ e * own c k
  small_form small k below = subst (λ z. nat_abs z ≤ e * own c k) (residue_is_form c 1 μ k below) (small k below)

  zero_form : (m : ℕ) (u : Vector) → ZeroResidue c e m u → (k : ℕ) → k < parts c.last → form_residue (loss_form c) (pos m) u k ≡ pos 0
  zero_form m u none k below = sym (residue_is_form c m u k below) ∙ none k below

  pub guaranteed : Carried c → passes (figures_from c e) μ ≡ true → Guarantee c e μ
  guaranteed h passing = let small = small_of_passes c e μ passing in record {
    nearly_least = λ m u _. rw (loss_is_form c 1 μ, loss_is_form c m u) (Form.nearly_least (loss_form c) e μ (small_form small) m u);
    near = λ m u _ none. Form.near (loss_form c) e μ (small_form small) m u (zero_form m u none);
    strictly_least = λ none m u _ other. rw (loss_is_form c 1 μ, loss_is_form c m u)
        (Form.strictly_least (loss_form c) e μ (carried_owned c h).owned (zero_form 1 μ none) m u other.0 other.1 other.2);
  }

-- with at most 15 years
pub rounded_passes : (c : Chain) (e : ℕ) → Carried c → c.last ≤ year_limit → RoundingPasses c e
rounded_passes c e h years μ r =
    let room : 121 ≤ e = le_trans (omega arith) r.room in
    let small = rounding_passes c (carried_owned c h) years e room r.m r.u μ in
    passes_of_small c e μ (small r.some r.exact r.half)

pub demand3 : Demand3
demand3 = record {
  guarantee = λ f h μ. guaranteed (chain_left f) (closeness f.file) μ (struck_chain f h).1;
  rounding = λ f h. let both = struck_chain f h in rounded_passes (chain_left f) (closeness f.file) both.1 both.0.years;
}

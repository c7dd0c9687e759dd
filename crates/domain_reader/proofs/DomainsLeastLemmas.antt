-- What is answered of lists of faults side by side.
use Rattle.std.proofs.Common.{◌≡◌, ◌++◌, refl, sym, subst, ap, ◌∙◌, Option, Some, None}
use Rattle.sexpr_text.specs.Trees.{Trees}
use Rattle.form_reader.specs.declared.fault.Fault.{Fault}
use Rattle.form_reader.specs.Faults.{first, least_fault}
use Rattle.form_reader.proofs.FaultsFirstLemmas.{first_append}
use Rattle.form_reader.proofs.FaultsLeastLemmas.{none_is_none}
use Rattle.name_tables.specs.declared.vocabulary.Vocabulary.{Vocabulary}
use Rattle.form_reader.specs.declared.items.TextKind.TheVariants.{Domain as Domain'}
use Rattle.form_reader.specs.Texts.{form_faults}
use Rattle.task_model.specs.declared.domain.Domain.{Domain}
use Rattle.domain_reader.specs.Domains.{AnswersDerived, AnswersNames, AnswersTypes, AreNameFaults, IsDomainAnswered, IsDomainBy, IsDomainRead, domain_names, of_names, plain_names}
use Rattle.domain_reader.specs.Tables.{vocabulary_in}
use Rattle.name_tables.specs.Texts.{body_of}

pub all_names : (v : Vocabulary) (body : Trees) (plain types answered : Option Fault)
    → plain ≡ least_fault (plain_names v body) → AnswersTypes v body plain types
    → AnswersDerived v body types answered → AnswersNames v body answered
all_names v body plain types answered e t d =
    record {
      faults = plain_names v body ++ t.faults ++ d.faults;
      right = record { types = t.faults; types_right = t.right; derived = d.faults; derived_right = d.right; all = refl };
      least =
          d.least
          ∙ ap (λ g. first g d.faults) (t.least ∙ ap (λ g. first g t.faults) e ∙ sym (first_append None (plain_names v body) t.faults))
          ∙ sym (first_append None (plain_names v body ++ t.faults) d.faults);
    }

-- over the text's own names and items
pub of_text : (t b : Trees) (v : Vocabulary) (o : Option Fault) → b ≡ body_of t
    → v ≡ vocabulary_in b → AnswersNames v b o → AnswersNames (domain_names t) (body_of t) o
of_text t b v o e f a = subst (λ c. AnswersNames (domain_names t) c o) e (subst (λ w. AnswersNames w b o) (f ∙ ap vocabulary_in e) a)

pub read_whole : (t : Trees) (d : Domain) → least_fault (form_faults Domain' t) ≡ None
    → AnswersNames (domain_names t) (body_of t) None → IsDomainBy (domain_names t) t d
    → IsDomainRead t d
read_whole t d e a i = record {
  formed = none_is_none (form_faults Domain' t) e;
  named = subst (AreNameFaults (domain_names t) (body_of t)) (none_is_none a.faults (sym a.least)) a.right;
  domain = i;
}

pub blamed : (t : Trees) (f : Fault) → least_fault (form_faults Domain' t) ≡ None
    → AnswersNames (domain_names t) (body_of t) (Some f) → IsDomainAnswered t f
blamed t f e a = of_names (none_is_none (form_faults Domain' t) e) a.right (sym a.least)

-- Worked examples, evaluated.
mod Play
mod StreamExamples
mod DatagramExamples
mod OptionExamples
mod LimitExamples
mod FileExamples
mod MakingExamples
mod ControlExamples
mod ChoiceExamples
mod LegalExample
mod ClosingExample
pub mod ObjectExamples
mod NameExamples
mod ForkingExamples
mod UserExamples
mod QueueLengthExamples
mod PollingExamples

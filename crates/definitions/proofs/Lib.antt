pub mod JointTable
